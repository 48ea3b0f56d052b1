use Rattle.pfs_law_shared.proofs.OrderedActions.{order_kept}
use Rattle.pfs_law_shared.proofs.laws.ordered.Goals as goal

pub returns : goal.returns
returns c = order_kept c.never_fall.ensures.rows c.never_fall.ensures.words c.chained.ensures.rows c.chained.ensures.marks c.agreed.ensures c.told.ensures c.weighed.ensures
