use Rattle.pfs_law_conservation.proofs.ActedLines.{acted_law}
use Rattle.pfs_law_conservation.proofs.AdditionLaw.{added_law}
use Rattle.pfs_law_conservation.proofs.KeySums.{summed_law}
use Rattle.pfs_law_conservation.proofs.conservation.summed.Goals as goal

pub returns : goal.returns
returns c =
    summed_law c.rows.ensures.back c.rows.ensures.found c.rows.ensures.none c.words.ensures c.merge.ensures c.reported.ensures
    (added_law c.rows.ensures.back c.rows.ensures.found c.rows.ensures.none (acted_law c.rows.ensures.back c.rows.ensures.found c.rows.ensures.none))
