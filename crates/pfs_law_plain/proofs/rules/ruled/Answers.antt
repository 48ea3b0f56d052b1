use Rattle.pfs_law_plain.proofs.RunRules.{ruled}
use Rattle.pfs_law_plain.proofs.rules.ruled.Goals as goal

pub returns : goal.returns
returns c = ruled c.merge.ensures
