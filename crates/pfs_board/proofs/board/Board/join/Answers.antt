use Rattle.std.proofs.Common.{◌≡◌, ◌∙◌, ◌+◌, [], ◌∷◌, sym, refl, ap, subst, arith}
use Rattle.pfs_board.specs.declared.view.View.{View}
use Rattle.pfs_board.specs.Knowledge.{held, stake, joined}
use Rattle.pfs_board.specs.SeatViews.{Known, Place, first_view, IsReady}
use Rattle.pfs_board.proofs.ReadySeats.{view_of_seat, ready_view, ready_both}
use Rattle.pfs_board.proofs.HandFacts.{stake_joined}
use Rattle.pfs_board.proofs.Seats.{joins}
use Rattle.pfs_board.proofs.ViewFacts.{held_merged}
use Rattle.pfs_board.proofs.board.Board.join.Goals as goal

pub join_seat-requires : goal.join_seat-requires
join_seat-requires g c = let s = c.into_seat-sitting.ensures in let o = c.into_seat.ensures in let b = c.replace-badge.ensures.value in let sized = c.self.invariant in let some_row = sized.some_row in let words = sized.words in
    let v_is = view_of_seat c.seat.inside.badge.table_id c.seat.inside.badge.views c.replace-badge.result.views c.into_seat-sitting.result.me.0 c.args.seat.now s.2 (λ i. (b i).views) c.seat.view_is in
    let w_is = view_of_seat c.other.inside.badge.table_id c.other.inside.badge.views c.other.inside.badge.views c.into_seat.result.me.0 c.args.other o.2 refl c.other.view_is in
    let rv = ready_view c.seat.inside.badge.table_id c.seat.inside.badge.views c.replace-badge.result.views c.into_seat-sitting.result.me.0 s.2 (λ i. (b i).views) c.seat.invariant in
    let rw_ = ready_view c.other.inside.badge.table_id c.other.inside.badge.views c.other.inside.badge.views c.into_seat.result.me.0 o.2 refl c.other.invariant in
    let home : c.args.self.now.id ≡ c.self.inside.table.shared.table_id = ap (λ (p : Place). p.id) (sym c.self.view_is) in (
      s.0 ∙ ((λ i. (b i).table_id) ∙ (ap (λ (k : Known). k.board) c.seat.view_is ∙ (c.requires.board.0 ∙ home))),
      o.0 ∙ (ap (λ (k : Known). k.board) c.other.view_is ∙ (c.requires.board.1 ∙ home)),
      o.3,
      omega arith,
      joins g.V.Kept.stands_for c.self.inside.table.shared.key.items c.into_seat-sitting.result.id c.into_seat-sitting.result.me.0 c.into_seat.result.id c.into_seat.result.me.0 rv.live (ap (λ (x : View). x.number) v_is ∙ c.requires.root) rw_.live (ap (λ (x : View). held x.rows) w_is ∙ c.requires.empty),
    )

pub invariant_of-seat : goal.invariant_of-seat
invariant_of-seat g c = let s = c.into_seat-sitting.ensures in let o = c.into_seat.ensures in let b = c.replace-badge.ensures.value in let j = c.join_seat.ensures in let e = c.into_badge.ensures in
    let rv = ready_view c.seat.inside.badge.table_id c.seat.inside.badge.views c.replace-badge.result.views c.into_seat-sitting.result.me.0 s.2 (λ i. (b i).views) c.seat.invariant in
    let rw_ = ready_view c.other.inside.badge.table_id c.other.inside.badge.views c.other.inside.badge.views c.into_seat.result.me.0 o.2 refl c.other.invariant in
    let here = ap (λ (k : Known). k.board) c.seat.view_is ∙ c.requires.board.0 in let there = ap (λ (k : Known). k.board) c.other.view_is ∙ c.requires.board.1 in
    let same : c.other.inside.badge.table_id ≡ c.seat.inside.badge.table_id = there ∙ sym here in
    let table : c.into_badge.result.table_id ≡ c.seat.inside.badge.table_id = e.0 ∙ (j.0 ∙ (s.0 ∙ (λ i. (b i).table_id))) in
    let both = ready_both c.seat.inside.badge.table_id c.into_seat-sitting.result.me.0 c.into_seat.result.me.0 rv (subst (λ z. IsReady z (c.into_seat.result.me.0 ∷ [])) same rw_) in
    let views : c.into_badge.result.views ≡ joined c.into_seat-sitting.result.me.0 c.into_seat.result.me.0 ∷ [] = e.2 ∙ (λ i. (j.2 i).0 ∷ []) in
    subst (λ z. IsReady z c.into_badge.result.views) (sym table) (subst (IsReady c.seat.inside.badge.table_id) (sym views) both)

pub returns-clause-hands : goal.returns-clause-hands
returns-clause-hands g c = let s = c.into_seat-sitting.ensures in let b = c.replace-badge.ensures.value in let j = c.join_seat.ensures in let e = c.into_badge.ensures in
    let v_is = view_of_seat c.seat.inside.badge.table_id c.seat.inside.badge.views c.replace-badge.result.views c.into_seat-sitting.result.me.0 c.args.seat.now s.2 (λ i. (b i).views) c.seat.view_is in
    ap (λ vs. held (first_view vs).rows) e.2 ∙ ((λ i. held (j.2 i).0.rows) ∙ (held_merged c.into_seat-sitting.result.me.0.rows c.into_seat.result.me.0.rows ∙ ap (λ (v : View). held v.rows) v_is))

pub returns-clause-stake : goal.returns-clause-stake
returns-clause-stake g c = let s = c.into_seat-sitting.ensures in let o = c.into_seat.ensures in let b = c.replace-badge.ensures.value in let j = c.join_seat.ensures in let e = c.into_badge.ensures in
    let v_is = view_of_seat c.seat.inside.badge.table_id c.seat.inside.badge.views c.replace-badge.result.views c.into_seat-sitting.result.me.0 c.args.seat.now s.2 (λ i. (b i).views) c.seat.view_is in
    let w_is = view_of_seat c.other.inside.badge.table_id c.other.inside.badge.views c.other.inside.badge.views c.into_seat.result.me.0 c.args.other o.2 refl c.other.view_is in
    ap (λ vs. stake (first_view vs)) e.2 ∙ ((λ i. stake (j.2 i).0) ∙ (stake_joined c.into_seat-sitting.result.me.0 c.into_seat.result.me.0 ∙ (λ i. stake (v_is i) + stake (w_is i))))
