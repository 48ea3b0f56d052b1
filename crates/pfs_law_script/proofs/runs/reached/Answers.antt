use Rattle.pfs_law_script.proofs.BlocksAhead.{reached}
use Rattle.pfs_law_script.proofs.runs.reached.Goals as goal

pub returns : goal.returns
returns c = reached
