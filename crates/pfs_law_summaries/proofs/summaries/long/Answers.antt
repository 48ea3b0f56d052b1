use Rattle.pfs_law_summaries.proofs.LongHistory.{long_law}
use Rattle.pfs_law_summaries.proofs.summaries.long.Goals as goal

pub returns : goal.returns
returns c = long_law
