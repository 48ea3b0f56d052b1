use Rattle.std.proofs.Common.{sym, ◌∙◌, ap}
use Rattle.pfs_check_tickets.specs.RisingPuts.{put_in}
use Rattle.pfs_check_tickets.proofs.RisingFacts.{rises_none, rises_some}
use Rattle.pfs_check_tickets.proofs.rising.LongTickets.rises_at.Goals as goal

pub returns-in-Some : goal.returns-in-Some
returns-in-Some c = λ all earlier place known entry.
    rises_some all earlier place c.args.self.now c.in-Some.put c.is_above_last.result (ap put_in entry ∙ sym c.in-Some.ensures) known
    c.is_above_last.ensures

pub returns-in-None : goal.returns-in-None
returns-in-None c = λ all earlier place known entry. rises_none all earlier place (ap put_in entry ∙ sym c.in-None.ensures)
