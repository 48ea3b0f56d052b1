use Rattle.pfs_law_summaries.proofs.SessionHistories.{histories_law}
use Rattle.pfs_law_summaries.proofs.summaries.histories.Goals as goal

pub returns : goal.returns
returns c = histories_law c.kept.ensures c.orderly.ensures c.history.ensures
