use Rattle.pfs_law_summaries.proofs.LastQuits.{last_law}
use Rattle.pfs_law_summaries.proofs.order.last.Goals as goal

pub returns : goal.returns
returns c = last_law c.playable.ensures
