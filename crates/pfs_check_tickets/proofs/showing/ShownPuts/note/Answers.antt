use Rattle.std.proofs.Common.{refl}
use Rattle.pfs_check_tickets.proofs.ShownFacts.{shown_busy, shown_ticket}
use Rattle.pfs_check_tickets.proofs.showing.ShownPuts.note.Goals as goal

pub returns-in-Some : goal.returns-in-Some
returns-in-Some c = shown_ticket c.args.self.now c.show.new.self c.add_row.new.rows c.args.phase c.args.session c.kind_of-kind.result c.in-Some.ticket c.args.put
    c.show.result c.kind_of-kind.ensures c.in-Some.is c.in_ok-add_row.ensures c.show.ensures.rows c.show.ensures.tickets c.show.ensures.sessions

pub returns-in-None : goal.returns-in-None
returns-in-None c = shown_busy c.args.self.now (record c.args.self.now { rows = c.add_row.new.rows }) c.add_row.new.rows c.args.phase c.args.session c.args.put c.in-None.is c.in_ok-add_row.ensures
    refl refl refl
