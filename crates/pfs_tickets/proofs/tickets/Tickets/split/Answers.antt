use Rattle.std.proofs.Common.{◌∙◌, sym, ap, arith}
use Rattle.pfs_tickets.specs.declared.view.View.{View}
use Rattle.pfs_tickets.specs.SeatViews.{Known}
use Rattle.pfs_tickets.proofs.ReadySeats.{view_of_seat, ready_view}
use Rattle.pfs_tickets.proofs.RuleSteps.{M, tell_keeps}
use Rattle.pfs_tickets.proofs.Seats.{cuts}
use Rattle.pfs_tickets.proofs.tickets.Tickets.split.Goals as goal

pub compare_exchange-requires : goal.compare_exchange-requires
compare_exchange-requires c = let s = c.into_seat-sitting.ensures in let b = c.replace-badge.ensures.value in let words = c.self.invariant.words in (
  s.0 ∙ ((λ i. (b i).table_id) ∙ (ap (λ (k : Known). k.tickets) c.seat.view_is ∙ (c.requires.tickets ∙ sym c.self.view_is))),
  omega arith,
  tell_keeps _ _ _ c.into_seat-sitting.result.me _,
)

pub split_seat-other-requires : goal.split_seat-other-requires
split_seat-other-requires c = let s = c.into_seat-sitting.ensures in let b = c.replace-badge.ensures.value in let x = c.compare_exchange.ensures in let words = c.self.invariant.words in let enough = c.requires.draws in
    let rv = ready_view c.seat.inside.badge.views c.replace-badge.result.views c.into_seat-sitting.result.me.0 s.2 (λ i. (b i).views) c.seat.invariant in
    let v_is = view_of_seat c.seat.inside.badge.table_id c.seat.inside.badge.views c.replace-badge.result.views c.into_seat-sitting.result.me.0 c.args.seat.now s.2 (λ i. (b i).views) c.seat.view_is in
    let said_is = ap (λ (m : M (Unit {0})). m.0.said) x.2 in let draws_are = ap (λ (m : M (Unit {0})). m.0.draws) x.2 ∙ ap (λ (v : View). v.draws) v_is in (
      x.0 ∙ (s.0 ∙ ((λ i. (b i).table_id) ∙ (ap (λ (k : Known). k.tickets) c.seat.view_is ∙ (c.requires.tickets ∙ sym c.self.view_is)))),
      omega arith,
      cuts _ c.compare_exchange.new.seat.id c.compare_exchange.new.seat.me.0 (ap (λ (m : M (Unit {0})). m.0.live) x.2 ∙ rv.live) (ap (λ (m : M (Unit {0})). m.0.number) x.2 ∙ (ap (λ (v : View). v.number) v_is ∙ c.requires.root)) (omega arith),
    )
