use Rattle.pfs_law_conservation.proofs.ActedLines.{acted_law}
use Rattle.pfs_law_conservation.proofs.conservation.acted.Goals as goal

pub returns : goal.returns
returns c = acted_law c.rows.ensures.back c.rows.ensures.found c.rows.ensures.none
