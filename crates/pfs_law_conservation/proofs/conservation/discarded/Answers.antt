use Rattle.pfs_law_conservation.proofs.ActedLines.{acted_law}
use Rattle.pfs_law_conservation.proofs.AdditionLaw.{added_law}
use Rattle.pfs_law_conservation.proofs.DiscardedEvents.{discarded_law}
use Rattle.pfs_law_conservation.proofs.conservation.discarded.Goals as goal

pub returns : goal.returns
returns c =
    discarded_law c.rows.ensures.back c.rows.ensures.found c.rows.ensures.none c.words.ensures c.merge.ensures c.reported_discarded.ensures
    (added_law c.rows.ensures.back c.rows.ensures.found c.rows.ensures.none (acted_law c.rows.ensures.back c.rows.ensures.found c.rows.ensures.none))
