use Rattle.pfs_tickets.proofs.Seats.{opens}
use Rattle.pfs_tickets.proofs.tickets.Tickets.open.Goals as goal

pub of_words-requires : goal.of_words-requires
of_words-requires c = opens (Unit {0})
