use Rattle.pfs_law_joint.proofs.TicketSums.{tickets_once}
use Rattle.pfs_law_joint.proofs.laws.drawn.Goals as goal

pub returns : goal.returns
returns c = tickets_once
