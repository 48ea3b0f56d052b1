use Rattle.pfs_law_agreed.proofs.QuietSums.{quiet_law}
use Rattle.pfs_law_agreed.proofs.laws.quiet_phase.Goals as goal

pub returns : goal.returns
returns c = quiet_law c.kept.ensures c.orderly.ensures
