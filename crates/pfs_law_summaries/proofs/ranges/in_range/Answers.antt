use Rattle.pfs_law_summaries.proofs.FactRanges.{in_range}
use Rattle.pfs_law_summaries.proofs.ranges.in_range.Goals as goal

pub returns : goal.returns
returns c = in_range
