use Rattle.pfs_law_conservation.proofs.DigestSums.{digest_summed_law}
use Rattle.pfs_law_conservation.proofs.conservation.digest_summed.Goals as goal

pub returns : goal.returns
returns c = digest_summed_law c.words.ensures c.merge.ensures c.conserved.ensures
