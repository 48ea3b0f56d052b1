use Rattle.std.proofs.Common.{◌∙◌, sym, refl, ap, arith}
use Rattle.pfs_tickets.specs.declared.view.View.{View}
use Rattle.pfs_tickets.specs.SeatViews.{Known}
use Rattle.pfs_tickets.proofs.ReadySeats.{view_of_seat, ready_view}
use Rattle.pfs_tickets.proofs.Seats.{joins}
use Rattle.pfs_tickets.proofs.tickets.Tickets.join.Goals as goal

pub join_seat-requires : goal.join_seat-requires
join_seat-requires c = let s = c.into_seat-sitting.ensures in let o = c.into_seat.ensures in let b = c.replace-badge.ensures.value in let words = c.self.invariant.words in
    let rv = ready_view c.seat.inside.badge.views c.replace-badge.result.views c.into_seat-sitting.result.me.0 s.2 (λ i. (b i).views) c.seat.invariant in
    let rw_ = ready_view c.other.inside.badge.views c.other.inside.badge.views c.into_seat.result.me.0 o.2 refl c.other.invariant in
    let v_is = view_of_seat c.seat.inside.badge.table_id c.seat.inside.badge.views c.replace-badge.result.views c.into_seat-sitting.result.me.0 c.args.seat.now s.2 (λ i. (b i).views) c.seat.view_is in (
      s.0 ∙ ((λ i. (b i).table_id) ∙ (ap (λ (k : Known). k.tickets) c.seat.view_is ∙ (c.requires.tickets.0 ∙ sym c.self.view_is))),
      o.0 ∙ (ap (λ (k : Known). k.tickets) c.other.view_is ∙ (c.requires.tickets.1 ∙ sym c.self.view_is)),
      o.3,
      omega arith,
      joins _ c.into_seat-sitting.result.id c.into_seat-sitting.result.me.0 c.into_seat.result.id c.into_seat.result.me.0 rv.live (ap (λ (v : View). v.number) v_is ∙ c.requires.root) rw_.live,
    )
