use Rattle.pfs_html.proofs.RankOrders.{ranks_right}
use Rattle.pfs_html.proofs.laws.ranks_are_right.Goals as goal

pub returns : goal.returns
returns c = ranks_right
