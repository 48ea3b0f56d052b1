use Rattle.pfs_law_agreed.proofs.QuietSums.{told_law}
use Rattle.pfs_law_agreed.proofs.laws.quiet_verdicts.Goals as goal

pub returns : goal.returns
returns c = told_law c.kept.ensures c.orderly.ensures
