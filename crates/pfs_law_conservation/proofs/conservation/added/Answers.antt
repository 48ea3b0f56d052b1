use Rattle.pfs_law_conservation.proofs.ActedLines.{acted_law}
use Rattle.pfs_law_conservation.proofs.AdditionLaw.{added_law}
use Rattle.pfs_law_conservation.proofs.conservation.added.Goals as goal

pub returns : goal.returns
returns c =
    added_law c.rows.ensures.back c.rows.ensures.found c.rows.ensures.none (acted_law c.rows.ensures.back c.rows.ensures.found c.rows.ensures.none)
