use Rattle.pfs_law_summaries.proofs.HistoryExamples.{worked_history}
use Rattle.pfs_law_summaries.proofs.summaries.worked_history.Goals as goal

pub returns : goal.returns
returns c = worked_history
