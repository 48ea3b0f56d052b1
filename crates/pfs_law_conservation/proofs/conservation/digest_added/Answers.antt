use Rattle.pfs_law_conservation.proofs.DigestAdditions.{digest_added_law}
use Rattle.pfs_law_conservation.proofs.conservation.digest_added.Goals as goal

pub returns : goal.returns
returns c = digest_added_law
