use Rattle.pfs_law_summaries.proofs.SessionHistories.{history_law}
use Rattle.pfs_law_summaries.proofs.summaries.history.Goals as goal

pub returns : goal.returns
returns c = history_law
