use Rattle.pfs_law_summaries.proofs.LostDigests.{lost_digests_law}
use Rattle.pfs_law_summaries.proofs.summaries.lost_digests.Goals as goal

pub returns : goal.returns
returns c = lost_digests_law c.kept.ensures c.orderly.ensures
