use Rattle.pfs_law_shared.proofs.JoinedRules.{joined}
use Rattle.pfs_law_shared.proofs.laws.joined.Goals as goal

pub returns : goal.returns
returns c = joined c.ruled.ensures c.floored.ensures c.ticketed.ensures c.risen.ensures c.apart.ensures c.nearby.ensures
