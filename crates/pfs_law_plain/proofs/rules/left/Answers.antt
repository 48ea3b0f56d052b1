use Rattle.pfs_law_plain.proofs.PhaseStore.{left}
use Rattle.pfs_law_plain.proofs.rules.left.Goals as goal

pub returns : goal.returns
returns c = left
