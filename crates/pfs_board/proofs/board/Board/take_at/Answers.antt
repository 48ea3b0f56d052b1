use Rattle.std.proofs.Common.{◌≡◌, ◌∙◌, length, sym, ap, subst}
use Rattle.pfs_board.specs.declared.view.View.{View}
use Rattle.pfs_board.specs.SeatViews.{Known, Place, first_view}
use Rattle.pfs_board.specs.TakeAnswers.{IsTaken}
use Rattle.pfs_board.proofs.ReadySeats.{view_of_seat}
use Rattle.pfs_board.proofs.HandFacts.{has_corner, hands_taken}
use Rattle.pfs_board.proofs.board.Board.take_at.Goals as goal

pub returns-clause-hands : goal.returns-clause-hands
returns-clause-hands g c = let s = c.into_seat-sitting.ensures in let b = c.replace-badge.ensures.value in let e = c.into_badge.ensures in
    let v_is = view_of_seat c.seat.inside.badge.table_id c.seat.inside.badge.views c.replace-badge.result.views c.into_seat-sitting.result.me.0 c.args.seat.now s.2 (λ i. (b i).views) c.seat.view_is in
    let w_is : c.seize-taken.new.seat.me.0 ≡ first_view c.into_badge.result.views = sym (ap first_view e.2) in
    let table = ap (λ (k : Known). k.board) c.seat.view_is ∙ (c.requires.board ∙ ap (λ (p : Place). p.id) (sym c.self.view_is)) in
    let words = ap (λ (z : _). z.words) table ∙ (c.self.invariant.words ∙ ap (λ (p : Place). length p.start) c.self.view_is) in
    let h = has_corner c.seat.inside.badge.table_id c.seat.inside.badge.views c.args.seat.now c.args.self.now.start c.args.row c.seat.view_is c.seat.invariant words c.requires.row.1 in
    hands_taken c.args.seat.now.view c.args.row c.seize-taken.result (first_view c.into_badge.result.views) h c.requires.row.2
    (subst (λ (z : View × View). IsTaken z.0 c.args.row c.seize-taken.result z.1) (λ i. (v_is i, w_is i)) c.seize-taken.ensures.answer)
