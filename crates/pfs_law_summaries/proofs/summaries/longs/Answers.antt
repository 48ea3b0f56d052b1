use Rattle.pfs_law_summaries.proofs.LongHistory.{longs_law}
use Rattle.pfs_law_summaries.proofs.summaries.longs.Goals as goal

pub returns : goal.returns
returns c = longs_law c.kept.ensures c.orderly.ensures c.long.ensures
