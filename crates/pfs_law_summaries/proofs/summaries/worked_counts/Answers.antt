use Rattle.pfs_law_summaries.proofs.CountExamples.{worked_counts}
use Rattle.pfs_law_summaries.proofs.summaries.worked_counts.Goals as goal

pub returns : goal.returns
returns c = worked_counts
