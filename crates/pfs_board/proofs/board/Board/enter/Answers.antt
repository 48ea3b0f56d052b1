use Rattle.std.proofs.Common.{◌≡◌, ◌∙◌, ◌+◌, true, sym, ap, subst, arith}
use Rattle.pfs_board.specs.declared.view.View.{View}
use Rattle.pfs_board.specs.Knowledge.{corner, is_holding, held, stake}
use Rattle.pfs_board.specs.SeatViews.{Known, Place, IsReady, first_view}
use Rattle.pfs_board.proofs.ReadySeats.{view_of_seat, ready_view}
use Rattle.pfs_board.proofs.RowWaits.{ready_begun, hands_begun}
use Rattle.pfs_board.proofs.board.Board.enter.Goals as goal

pub invariant_of-seat : goal.invariant_of-seat
invariant_of-seat g c = let s = c.into_seat-sitting.ensures in let b = c.replace-badge.ensures.value in let e = c.into_badge.ensures in let x = c.enter_by-begun.ensures in
    let v_is = view_of_seat c.seat.inside.badge.table_id c.seat.inside.badge.views c.replace-badge.result.views c.into_seat-sitting.result.me.0 c.args.seat.now s.2 (λ i. (b i).views) c.seat.view_is in
    let rv = ready_view c.seat.inside.badge.table_id c.seat.inside.badge.views c.replace-badge.result.views c.into_seat-sitting.result.me.0 s.2 (λ i. (b i).views) c.seat.invariant in
    let home = ap (λ (k : Known). k.board) c.seat.view_is ∙ (c.requires.board ∙ ap (λ (p : Place). p.id) (sym c.self.view_is)) in
    let words = ap (λ (z : _). z.words) home ∙ c.self.invariant.words in let some_row = c.self.invariant.some_row in let wide = rv.wide in
    let table = e.0 ∙ (x.seat.0 ∙ (s.0 ∙ (λ i. (b i).table_id))) in
    subst (λ z. IsReady z c.into_badge.result.views) (sym table)
    (subst (IsReady c.seat.inside.badge.table_id) (sym e.2) (ready_begun c.seat.inside.badge.table_id c.into_seat-sitting.result.me.0 c.enter_by-begun.new.seat.me.0 c.args.label (omega arith) rv x.begun))

pub returns-clause-hands : goal.returns-clause-hands
returns-clause-hands g c = let s = c.into_seat-sitting.ensures in let b = c.replace-badge.ensures.value in let e = c.into_badge.ensures in let x = c.enter_by-begun.ensures in
    let v_is = view_of_seat c.seat.inside.badge.table_id c.seat.inside.badge.views c.replace-badge.result.views c.into_seat-sitting.result.me.0 c.args.seat.now s.2 (λ i. (b i).views) c.seat.view_is in
    let rv = ready_view c.seat.inside.badge.table_id c.seat.inside.badge.views c.replace-badge.result.views c.into_seat-sitting.result.me.0 s.2 (λ i. (b i).views) c.seat.invariant in
    let home = ap (λ (k : Known). k.board) c.seat.view_is ∙ (c.requires.board ∙ ap (λ (p : Place). p.id) (sym c.self.view_is)) in
    let words = ap (λ (z : _). z.words) home ∙ c.self.invariant.words in let some_row = c.self.invariant.some_row in let wide = rv.wide in
    let w_is = ap first_view e.2 in
    subst (λ (z : View × View). (is_holding (corner z.1 0).stage ≡ true) × (held z.1.rows ≡ held z.0.rows + 1) × (stake z.1 ≡ stake z.0)) (λ i. (v_is i, sym w_is i))
    (hands_begun c.into_seat-sitting.result.me.0 c.enter_by-begun.new.seat.me.0 c.args.label (omega arith) x.free x.begun)
