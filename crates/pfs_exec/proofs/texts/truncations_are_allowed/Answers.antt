use Rattle.pfs_exec.proofs.CommandRequests.{truncated}
use Rattle.pfs_exec.proofs.texts.truncations_are_allowed.Goals as goal

pub returns : goal.returns
returns c = truncated
