use Rattle.pfs_law_summaries.proofs.DigestExamples.{worked_digests}
use Rattle.pfs_law_summaries.proofs.summaries.worked_digests.Goals as goal

pub returns : goal.returns
returns c = worked_digests
