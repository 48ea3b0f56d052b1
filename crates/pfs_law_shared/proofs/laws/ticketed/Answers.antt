use Rattle.pfs_law_shared.proofs.PhaseTickets.{tickets_kept}
use Rattle.pfs_law_shared.proofs.laws.ticketed.Goals as goal

pub returns : goal.returns
returns c = tickets_kept c.told.ensures c.weighed.ensures
