use Rattle.pfs_law_summaries.proofs.DigestNumbers.{digest_numbers_law}
use Rattle.pfs_law_summaries.proofs.summaries.digest_numbers.Goals as goal

pub returns : goal.returns
returns c = digest_numbers_law c.few_ended.ensures c.in_range.ensures
