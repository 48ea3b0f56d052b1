use Rattle.pfs_law_conservation.proofs.TruncationOrder.{order_law}
use Rattle.pfs_law_conservation.proofs.truncations.order.Goals as goal

pub returns : goal.returns
returns c = order_law
