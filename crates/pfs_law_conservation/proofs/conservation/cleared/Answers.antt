use Rattle.pfs_law_conservation.proofs.GlobalTakes.{cleared_law}
use Rattle.pfs_law_conservation.proofs.conservation.cleared.Goals as goal

pub returns : goal.returns
returns c = cleared_law c.rows.ensures.back c.rows.ensures.found c.rows.ensures.none
