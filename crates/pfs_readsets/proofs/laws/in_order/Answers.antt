use Rattle.pfs_readsets.proofs.Members.{in_order}
use Rattle.pfs_readsets.proofs.laws.in_order.Goals as goal

pub returns : goal.returns
returns c = in_order
