use Rattle.pfs_check_tickets.proofs.RisingLaws.{rises_back}
use Rattle.pfs_check_tickets.proofs.TicketLaws.{tickets_back}
use Rattle.pfs_check_tickets.proofs.laws.tickets.Goals as goal

pub returns-clause-each : goal.returns-clause-each
returns-clause-each c = tickets_back

pub returns-clause-rising : goal.returns-clause-rising
returns-clause-rising c = rises_back
