use Rattle.std.proofs.Common.{◌∙◌, ◌≡◌, sym, ap, arith}
use Rattle.pfs_switches.specs.declared.view.View.{View}
use Rattle.pfs_switches.specs.SeatViews.{Known, Place}
use Rattle.pfs_switches.proofs.ReadySeats.{view_of_seat, ready_view}
use Rattle.pfs_switches.proofs.Seats.{cuts}
use Rattle.pfs_switches.proofs.switches.Switches.split.Goals as goal

pub split_seat-other-requires : goal.split_seat-other-requires
split_seat-other-requires c = let s = c.into_seat-sitting.ensures in let b = c.replace-badge.ensures.value in let sized = c.self.invariant in let words = sized.words in let some_word = sized.some_word in
    let rv = ready_view c.seat.inside.badge.table_id c.seat.inside.badge.views c.replace-badge.result.views c.into_seat-sitting.result.me.0 s.2 (λ i. (b i).views) c.seat.invariant in
    let v_is = view_of_seat c.seat.inside.badge.table_id c.seat.inside.badge.views c.replace-badge.result.views c.into_seat-sitting.result.me.0 c.args.seat.now s.2 (λ i. (b i).views) c.seat.view_is in
    let home : c.args.self.now.id ≡ c.self.inside.table.shared.table_id = ap (λ (p : Place). p.id) (sym c.self.view_is) in (
      s.0 ∙ ((λ i. (b i).table_id) ∙ (ap (λ (k : Known). k.switches) c.seat.view_is ∙ (c.requires.switches ∙ home))),
      omega arith,
      cuts _ c.self.inside.table.shared.key.items c.into_seat-sitting.result.id c.into_seat-sitting.result.me.0 rv.live rv.reads rv.sits (ap (λ (v : View). v.number) v_is ∙ c.requires.root),
    )
