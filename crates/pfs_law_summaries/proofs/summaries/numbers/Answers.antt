use Rattle.pfs_law_summaries.proofs.RowNumbers.{numbers_law}
use Rattle.pfs_law_summaries.proofs.summaries.numbers.Goals as goal

pub returns : goal.returns
returns c = numbers_law c.few.ensures c.in_range.ensures
