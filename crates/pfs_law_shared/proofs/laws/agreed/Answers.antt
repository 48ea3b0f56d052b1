use Rattle.pfs_law_shared.proofs.AgreedCalls.{agreed_all}
use Rattle.pfs_law_shared.proofs.laws.agreed.Goals as goal

pub returns : goal.returns
returns c = agreed_all c.chained.ensures.flags c.told.ensures c.weighed.ensures c.contents.ensures c.journals.ensures
