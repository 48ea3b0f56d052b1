use Rattle.std.proofs.Common.{refl, sym, subst}
use Rattle.pfs_check_faults.specs.ReportCases.{entries_of}
use Rattle.pfs_check_walk.specs.Walks.{place_of}
use Rattle.pfs_check_tickets.specs.PutCounts.{AreCounted}
use Rattle.pfs_check_tickets.specs.RisingPuts.{AreTicketsOf}
use Rattle.pfs_check_tickets.specs.TicketRules.{LongsAt}
use Rattle.pfs_check_tickets.proofs.AskFacts.{longs_tell, tells_false, tells_true}
use Rattle.pfs_check_tickets.proofs.asking.AskingVisit.visit.Goals as goal

pub returns-then-not-kept : goal.returns-then-not-kept
returns-then-not-kept g c = λ case found earlier context told known.
    let place = place_of c.args.spot c.args.line.now context c.args.entry.now in
    tells_false (LongsAt (entries_of found) earlier place) c.both-kept.result
    (longs_tell (entries_of found) earlier place c.are_tickets-due.result c.rises_at-rises.result c.both-kept.result
    (c.are_tickets-due.ensures (entries_of found) earlier place refl refl (sym c.put_in-put.ensures) known.0 known.2)
    (c.rises_at-rises.ensures (entries_of found) earlier place known.1 refl) c.both-kept.ensures)
    c.if-not-kept.true

pub returns : goal.returns
returns g c = λ case found earlier context told known.
    let place = place_of c.args.spot c.args.line.now context c.args.entry.now in (
      tells_true (LongsAt (entries_of found) earlier place) c.both-kept.result
          (longs_tell (entries_of found) earlier place c.are_tickets-due.result c.rises_at-rises.result c.both-kept.result
          (c.are_tickets-due.ensures (entries_of found) earlier place refl refl (sym c.put_in-put.ensures) known.0 known.2)
          (c.rises_at-rises.ensures (entries_of found) earlier place known.1 refl) c.both-kept.ensures)
          c.if-not-kept.false,
      (
        subst (AreCounted (entries_of found)) (sym c.note.ensures.counts) known.0,
        subst (AreTicketsOf (entries_of found)) (sym c.note.ensures.tickets) known.1,
        c.in_ok-note.ensures.shown earlier place refl refl (sym c.put_in-put.ensures) known.2,
      ),
    )
