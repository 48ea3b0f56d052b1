use Rattle.std.proofs.Common.{sym, ◌∙◌, ap, subst, nat_lt}
use Rattle.std.specs.Prelude.{◌||◌}
use Rattle.pfs_check_faults.specs.RingFaults.{TicketsAt}
use Rattle.pfs_check_walk.specs.NumberTests.{Tells}
use Rattle.pfs_check_tickets.proofs.AskFacts.{tickets_none, tickets_some}
use Rattle.pfs_check_tickets.proofs.asking.are_tickets.Goals as goal

pub returns-in-Some : goal.returns-in-Some
returns-in-Some c = λ all earlier place phase session put counted known.
    subst (Tells (TicketsAt all earlier place))
    (sym (c.either.ensures ∙ ap (λ z. c.is_counted-due.result || nat_lt 3 z) c.kind_of-kind.ensures))
    (tickets_some all earlier place c.in-Some.put c.is_counted-due.result (put ∙ c.in-Some.is)
    (c.is_counted-due.ensures all earlier place phase session counted known))

pub returns-in-None : goal.returns-in-None
returns-in-None c = λ all earlier place phase session put counted known. tickets_none all earlier place (put ∙ c.in-None.is)
