use Rattle.std.proofs.Common.{◌≡◌, ◌∙◌, ℕ, List, sym, refl, ap, subst}
use Rattle.std.specs.Prelude.{Some}
use mathlib.Core.Option.{some-injective}
use Rattle.std.specs.Slots.{slots_items}
use Rattle.pfs_board.specs.declared.view.View.{View}
use Rattle.pfs_board.specs.WholeSeats.{History}
use Rattle.pfs_board.specs.History.{labels_of}
use Rattle.pfs_board.specs.Knowledge.{corner, is_holding, IsWhole}
use Rattle.pfs_board.specs.SeatViews.{Place}
use Rattle.pfs_board.proofs.ReadySeats.{view_of_seat, ready_view}
use Rattle.pfs_board.proofs.BoardEnds.{closes}
use Rattle.pfs_board.proofs.board.Board.close.Goals as goal

pub unreachable-requires : goal.unreachable-requires
unreachable-requires g c = let o = c.into_seat.ensures in
    let v_is = view_of_seat c.seat.inside.badge.table_id c.seat.inside.badge.views c.seat.inside.badge.views c.into_seat.result.me.0 c.args.seat o.2 refl c.seat.view_is in
    let rv = ready_view c.seat.inside.badge.table_id c.seat.inside.badge.views c.seat.inside.badge.views c.into_seat.result.me.0 o.2 refl c.seat.invariant in
    let h = closes g.V.Kept.stands_for c.self.inside.table.shared.key.items c.into_seat.result.id c.into_seat.result.me.0 (slots_items c.close_with-closed.result.words) (slots_items c.close_with-closed.result.slots) c.close_with-closed.ensures.values.2
    rv.live (subst IsWhole (sym v_is) c.requires.whole) (ap (λ (y : View). y.lent) v_is ∙ c.requires.outside.1) (ap (λ (y : View). is_holding (corner y 0).stage) v_is ∙ c.requires.outside.0) c.self.invariant.some_row in
    c.in_default.not-Some h.1 (some-injective _ _ (sym c.take.ensures.value ∙ h.2))

same_value : {K : Type 0} (x y : K) → Some x ≡ Some y → x ≡ y
same_value x y e = cc

pub returns-clause-history : goal.returns-clause-history
returns-clause-history g c = let o = c.into_seat.ensures in
    let v_is = view_of_seat c.seat.inside.badge.table_id c.seat.inside.badge.views c.seat.inside.badge.views c.into_seat.result.me.0 c.args.seat o.2 refl c.seat.view_is in
    let rv = ready_view c.seat.inside.badge.table_id c.seat.inside.badge.views c.seat.inside.badge.views c.into_seat.result.me.0 o.2 refl c.seat.invariant in
    let h = closes g.V.Kept.stands_for c.self.inside.table.shared.key.items c.into_seat.result.id c.into_seat.result.me.0 (slots_items c.close_with-closed.result.words) (slots_items c.close_with-closed.result.slots) c.close_with-closed.ensures.values.2
    rv.live (subst IsWhole (sym v_is) c.requires.whole) (ap (λ (y : View). y.lent) v_is ∙ c.requires.outside.1) (ap (λ (y : View). is_holding (corner y 0).stage) v_is ∙ c.requires.outside.0) c.self.invariant.some_row in
    let value : h.1 ≡ c.in-Some.kept = same_value h.1 c.in-Some.kept (some-injective _ _ (sym h.2 ∙ c.take.ensures.value) ∙ c.in-Some.is) in
    let start_is : c.self.inside.table.shared.key.items ≡ c.args.self.start = ap (λ (p : Place). p.start) c.self.view_is in
    let base : (x : History c.self.inside.table.shared.key.items (slots_items c.close_with-closed.result.words) c.into_seat.result.me.0) × g.V.Kept.stands_for c.in-Some.kept (labels_of x.t.log) = (h.0, subst (λ k. g.V.Kept.stands_for k (labels_of h.0.t.log)) value h.3) in
    subst (λ (z : List ℕ × List ℕ × View). (x : History z.0 z.1 z.2) × g.V.Kept.stands_for c.in-Some.kept (labels_of x.t.log)) (λ i. (start_is i, sym c.hand_back.ensures.words i, v_is i)) base
