use Rattle.pfs_law_summaries.proofs.FirstConnects.{first_law}
use Rattle.pfs_law_summaries.proofs.order.first.Goals as goal

pub returns : goal.returns
returns c = first_law c.playable.ensures c.reached.ensures
