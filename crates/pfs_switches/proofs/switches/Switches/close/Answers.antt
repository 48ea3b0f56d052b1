use Rattle.std.proofs.Common.{◌≡◌, ◌∙◌, ℕ, ◌-◌, List, sym, refl, ap, subst, arith}
use Rattle.std.specs.Slots.{slots_items}
use Rattle.pfs_switches.specs.declared.view.View.{View}
use Rattle.pfs_switches.specs.SharedKnowledge.{IsClosed}
use Rattle.pfs_switches.specs.Knowledge.{handed}
use Rattle.pfs_switches.specs.SeatViews.{Known, Place}
use Rattle.pfs_switches.specs.Rule.{Ruled}
use Rattle.atomic_table.specs.Table.{Final, Seen}
use Rattle.pfs_switches.proofs.ReadySeats.{view_of_seat, ready_view, writing_view}
use Rattle.pfs_switches.proofs.SwitchEnds.{closes}
use Rattle.pfs_switches.proofs.Seats.{hands}
use Rattle.pfs_switches.proofs.switches.Switches.close.Goals as goal

pub join_seat-requires : goal.join_seat-requires
join_seat-requires c = let s = c.into_seat-sitting.ensures in let o = c.into_seat.ensures in let sized = c.self.invariant in let words = sized.words in let some_word = sized.some_word in
    let rv = ready_view c.seat.inside.badge.table_id c.seat.inside.badge.views c.seat.inside.badge.views c.into_seat-sitting.result.me.0 s.2 refl c.seat.invariant in
    let rw_ = writing_view c.writer.inside.badge.table_id c.writer.inside.badge.views c.writer.inside.badge.views c.into_seat.result.me.0 o.2 refl c.writer.invariant in
    let home : c.args.self.id ≡ c.self.inside.table.shared.table_id = ap (λ (p : Place). p.id) (sym c.self.view_is) in (
      s.0 ∙ (ap (λ (k : Known). k.switches) c.seat.view_is ∙ (c.requires.switches.0 ∙ home)),
      o.0 ∙ (ap (λ (k : Known). k.switches) c.writer.view_is ∙ (c.requires.switches.1 ∙ home)),
      o.3,
      omega arith,
      hands _ c.self.inside.table.shared.key.items c.into_seat-sitting.result.id c.into_seat-sitting.result.me.0 c.into_seat.result.id c.into_seat.result.me.0 rv.live rw_.live rw_.writes rw_.stands,
    )

pub returns-clause-history : goal.returns-clause-history
returns-clause-history c = let s = c.into_seat-sitting.ensures in let o = c.into_seat.ensures in let j = c.join_seat.ensures in let sized = c.self.invariant in let words = sized.words in let some_word = sized.some_word in let n = c.word_count-count.ensures in
    let rv = ready_view c.seat.inside.badge.table_id c.seat.inside.badge.views c.seat.inside.badge.views c.into_seat-sitting.result.me.0 s.2 refl c.seat.invariant in
    let v_is = view_of_seat c.seat.inside.badge.table_id c.seat.inside.badge.views c.seat.inside.badge.views c.into_seat-sitting.result.me.0 c.args.seat s.2 refl c.seat.view_is in
    let w_is = view_of_seat c.writer.inside.badge.table_id c.writer.inside.badge.views c.writer.inside.badge.views c.into_seat.result.me.0 c.args.writer o.2 refl c.writer.view_is in
    let start : List ℕ = c.self.inside.table.shared.key.items in let start_is : start ≡ c.args.self.start = ap (λ (p : Place). p.start) c.self.view_is in
    let ws : List ℕ = slots_items c.close_with-closed.result.words in let final = c.close_with-closed.ensures.values.2 in
    let me_is : c.join_seat.new.seat.me.0 ≡ handed c.into_seat-sitting.result.me.0 c.into_seat.result.me.0 = λ i. (j.2 i).0 in
    let base = closes (Unit {0}) start c.join_seat.new.seat.id c.into_seat-sitting.result.me.0 c.into_seat.result.me.0 ws (slots_items c.close_with-closed.result.slots) (c.word_count-count.result - 1) c.hand_back.new.rows.items
    (subst (λ (v : View). Final (Seen (Ruled {S = Unit {0}} start) c.join_seat.new.seat.id v) ws (slots_items c.close_with-closed.result.slots)) me_is final) rv.live (omega arith) c.hand_back.ensures.rows in
    subst (λ (z : List ℕ × View × View). IsClosed z.0 z.1 z.2 c.hand_back.new.rows.items) (λ i. (start_is i, v_is i, w_is i)) base
