use Rattle.pfs_law_conservation.proofs.KindContents.{content_law}
use Rattle.pfs_law_conservation.proofs.conservation.contents.Goals as goal

pub returns : goal.returns
returns c = content_law c.rows.ensures.back c.rows.ensures.found c.rows.ensures.none c.words.ensures
