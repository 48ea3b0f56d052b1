-- The laws.
use Rattle.std.proofs.Common.{ap, ◌∙◌, arith, length-append}
use Rattle.pfs_tickets.specs.History.{count_of, times}
use Rattle.pfs_tickets.specs.TicketLaws.{SumLaw, PhaseLaw}
use Rattle.pfs_tickets.proofs.TicketFacts.{count_append, times_append}

pub sum_law : SumLaw
sum_law = ((λ v k t h. omega arith), (λ v n h. omega arith), (λ v w. let e = length-append w.tickets v.tickets in omega arith))

pub phase_law : PhaseLaw
phase_law v w new before after is k low = let counts = ap (count_of k) is ∙ count_append k new v.tickets in (
  omega arith,
  (λ t from to. let a = ap (times k t) is ∙ times_append k t new v.tickets in let b = before.never k t low from in let c = after.once k t low to in omega arith),
  (λ t to. let a = ap (times k t) is ∙ times_append k t new v.tickets in let b = before.once k t low to in let c = after.once k t low (omega arith) in omega arith),
  (λ t from. let a = ap (times k t) is ∙ times_append k t new v.tickets in let c = after.never k t low from in omega arith),
)
