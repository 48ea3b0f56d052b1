use Rattle.pfs_law_summaries.proofs.BlockEnds.{closed_law}
use Rattle.pfs_law_summaries.proofs.order.closed.Goals as goal

pub returns : goal.returns
returns c = closed_law
