use Rattle.pfs_law_summaries.proofs.EventCounts.{few}
use Rattle.pfs_law_summaries.proofs.ranges.few.Goals as goal

pub returns : goal.returns
returns c = few c.few_ended.ensures
