use Rattle.pfs_law_conservation.proofs.DigestLines.{digest_acted_law}
use Rattle.pfs_law_conservation.proofs.conservation.digest_acted.Goals as goal

pub returns : goal.returns
returns c = digest_acted_law
