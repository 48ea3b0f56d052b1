use Rattle.pfs_law_conservation.proofs.KindContents.{found_law}
use Rattle.pfs_law_conservation.proofs.conservation.found.Goals as goal

pub returns : goal.returns
returns c = found_law c.rows.ensures.back c.rows.ensures.found c.rows.ensures.none c.words.ensures
