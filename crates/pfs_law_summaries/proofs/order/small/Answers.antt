use Rattle.pfs_law_summaries.proofs.LineCells.{small_law}
use Rattle.pfs_law_summaries.proofs.order.small.Goals as goal

pub returns : goal.returns
returns c = small_law c.playable.ensures
