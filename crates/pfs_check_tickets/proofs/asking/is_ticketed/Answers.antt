use Rattle.std.proofs.Common.{◌&&◌, nat_lt, sym, ◌∙◌, ap, subst}
use Rattle.pfs_check_faults.specs.RingFaults.{IsTicketed}
use Rattle.pfs_check_walk.specs.NumberTests.{Tells}
use Rattle.pfs_check_tickets.specs.PrintedPuts.{long_of_put}
use Rattle.pfs_check_tickets.specs.ShownPuts.{due_test}
use Rattle.pfs_check_tickets.proofs.AskFacts.{ticketed_none, ticketed_some}
use Rattle.pfs_check_tickets.proofs.asking.is_ticketed.Goals as goal

pub returns-in-Some : goal.returns-in-Some
returns-in-Some c = λ all earlier place phase session has known.
    subst (Tells (IsTicketed all earlier place (long_of_put c.args.put)))
    (sym (c.both.ensures ∙ ap (λ z. z && c.has_room-room.result) c.is_due-due.ensures
    ∙ ap (λ z. due_test c.args.shown.now c.args.spot.phase c.args.spot.session c.args.counts c.args.put.row c.in-Some.ticket && z) c.has_room-room.ensures))
    (ticketed_some all earlier place c.args.put c.in-Some.ticket c.args.counts c.args.shown.now c.args.spot.phase c.args.spot.session
    phase session c.in-Some.is has known)

pub returns-in-None : goal.returns-in-None
returns-in-None c = λ all earlier place phase session has known.
    subst (Tells (IsTicketed all earlier place (long_of_put c.args.put))) (sym c.has_room-room.ensures)
    (ticketed_none all earlier place c.args.put c.args.counts c.args.shown.now c.args.spot.phase phase c.in-None.is has known)
