use Rattle.pfs_law_summaries.proofs.SummaryExamples.{worked}
use Rattle.pfs_law_summaries.proofs.summaries.worked.Goals as goal

pub returns : goal.returns
returns c = worked
