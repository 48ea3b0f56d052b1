use Rattle.std.proofs.Common.{◌∙◌, sym, ap, arith}
use Rattle.pfs_tickets.specs.declared.view.View.{View}
use Rattle.pfs_tickets.specs.SeatViews.{Known}
use Rattle.pfs_tickets.proofs.ReadySeats.{view_of_seat}
use Rattle.pfs_tickets.proofs.RuleSteps.{draw_keeps}
use Rattle.pfs_tickets.proofs.tickets.Tickets.draw.Goals as goal

pub fetch_add-ticket-requires : goal.fetch_add-ticket-requires
fetch_add-ticket-requires c = let s = c.into_seat-sitting.ensures in let b = c.replace-badge.ensures.value in let words = c.self.invariant.words in let low = c.requires.kind in let left = c.requires.left in
    let v_is = view_of_seat c.seat.inside.badge.table_id c.seat.inside.badge.views c.replace-badge.result.views c.into_seat-sitting.result.me.0 c.args.seat.now s.2 (λ i. (b i).views) c.seat.view_is in
    let draws_are = ap (λ (v : View). v.draws) v_is in (
      s.0 ∙ ((λ i. (b i).table_id) ∙ (ap (λ (k : Known). k.tickets) c.seat.view_is ∙ (c.requires.tickets ∙ sym c.self.view_is))),
      omega arith,
      draw_keeps _ _ _ c.into_seat-sitting.result.me _ _ (omega arith) (omega arith) (omega arith),
    )
