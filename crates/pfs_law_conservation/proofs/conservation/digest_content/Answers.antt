use Rattle.pfs_law_conservation.proofs.DigestContents.{digest_content_law}
use Rattle.pfs_law_conservation.proofs.conservation.digest_content.Goals as goal

pub returns : goal.returns
returns c = digest_content_law c.words.ensures
