use Rattle.pfs_law_summaries.proofs.EventCounts.{few_ended}
use Rattle.pfs_law_summaries.proofs.ranges.few_ended.Goals as goal

pub returns : goal.returns
returns c = few_ended c.total.ensures c.few.ensures
