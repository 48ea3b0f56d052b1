use Rattle.pfs_law_conservation.proofs.SummaryTruncations.{left_law}
use Rattle.pfs_law_conservation.proofs.truncations.summaries.Goals as goal

pub returns : goal.returns
returns c = left_law
