use Rattle.pfs_law_shared.proofs.RunRules.{ruled}
use Rattle.pfs_law_shared.proofs.laws.ruled.Goals as goal

pub returns : goal.returns
returns c = ruled c.merge.ensures c.told.ensures c.chained.ensures c.agreed.ensures c.ordered.ensures c.rising.ensures c.there.ensures c.labelled.ensures
