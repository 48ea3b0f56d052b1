use Rattle.std.proofs.Common.{◌∙◌, sym, ap, arith}
use Rattle.pfs_tickets.specs.SeatViews.{Known}
use Rattle.pfs_tickets.proofs.RuleSteps.{count_keeps}
use Rattle.pfs_tickets.proofs.tickets.Tickets.tell.Goals as goal

pub load-word-requires : goal.load-word-requires
load-word-requires c = let s = c.into_seat-sitting.ensures in let b = c.replace-badge.ensures.value in let words = c.self.invariant.words in let low = c.requires.kind in (
  s.0 ∙ ((λ i. (b i).table_id) ∙ (ap (λ (k : Known). k.tickets) c.seat.view_is ∙ (c.requires.tickets ∙ sym c.self.view_is))),
  omega arith,
  count_keeps _ _ _ c.into_seat-sitting.result.me _ (omega arith),
)
