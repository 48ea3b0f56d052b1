use Rattle.std.proofs.Common.{◌≡◌, ◌∙◌, false, ◌<◌, length, sym, ap, subst}
use Rattle.pfs_board.specs.declared.view.View.{View}
use Rattle.pfs_board.specs.Knowledge.{corner, is_holding}
use Rattle.pfs_board.specs.SeatViews.{Known, Place, IsReady, first_view}
use Rattle.pfs_board.specs.ReadAnswers.{IsSeenAs}
use Rattle.pfs_board.proofs.ReadySeats.{view_of_seat, ready_view, ready_seen}
use Rattle.pfs_board.proofs.HandFacts.{has_corner, hands_seen}
use Rattle.pfs_board.proofs.board.Board.read.Goals as goal

pub returns-clause-hands : goal.returns-clause-hands
returns-clause-hands g c = let s = c.into_seat-sitting.ensures in let b = c.replace-badge.ensures.value in let e = c.into_badge.ensures in
    let v_is = view_of_seat c.seat.inside.badge.table_id c.seat.inside.badge.views c.replace-badge.result.views c.into_seat-sitting.result.me.0 c.args.seat.now s.2 (λ i. (b i).views) c.seat.view_is in
    let w_is : c.read_by-seen.new.seat.me.0 ≡ first_view c.into_badge.result.views = sym (ap first_view e.2) in
    let table = ap (λ (k : Known). k.board) c.seat.view_is ∙ (c.requires.board ∙ ap (λ (p : Place). p.id) (sym c.self.view_is)) in
    let words = ap (λ (z : _). z.words) table ∙ (c.self.invariant.words ∙ ap (λ (p : Place). length p.start) c.self.view_is) in
    let h = has_corner c.seat.inside.badge.table_id c.seat.inside.badge.views c.args.seat.now c.args.self.now.start c.args.row c.seat.view_is c.seat.invariant words c.requires.row.0 in
    hands_seen c.args.seat.now.view c.args.row c.read_by-seen.result (first_view c.into_badge.result.views) h c.requires.row.1
    (subst (λ (z : View × View). IsSeenAs z.0 c.args.row c.read_by-seen.result z.1) (λ i. (v_is i, w_is i)) c.read_by-seen.ensures.answer)

pub invariant_of-seat : goal.invariant_of-seat
invariant_of-seat g c = let s = c.into_seat-sitting.ensures in let b = c.replace-badge.ensures.value in let e = c.into_badge.ensures in let x = c.read_by-seen.ensures in
    let v_is = view_of_seat c.seat.inside.badge.table_id c.seat.inside.badge.views c.replace-badge.result.views c.into_seat-sitting.result.me.0 c.args.seat.now s.2 (λ i. (b i).views) c.seat.view_is in
    let rv = ready_view c.seat.inside.badge.table_id c.seat.inside.badge.views c.replace-badge.result.views c.into_seat-sitting.result.me.0 s.2 (λ i. (b i).views) c.seat.invariant in
    let home = ap (λ (k : Known). k.board) c.seat.view_is ∙ (c.requires.board ∙ ap (λ (p : Place). p.id) (sym c.self.view_is)) in
    let words = ap (λ (z : _). z.words) home ∙ (c.self.invariant.words ∙ ap (λ (p : Place). length p.start) c.self.view_is) in
    let h = subst (λ (v : View). c.args.row < length v.rows) (sym v_is) (has_corner c.seat.inside.badge.table_id c.seat.inside.badge.views c.args.seat.now c.args.self.now.start c.args.row c.seat.view_is c.seat.invariant words c.requires.row.0) in
    let table = e.0 ∙ (x.seat.0 ∙ (s.0 ∙ (λ i. (b i).table_id))) in
    subst (λ z. IsReady z c.into_badge.result.views) (sym table) (subst (IsReady c.seat.inside.badge.table_id) (sym e.2)
    (ready_seen c.seat.inside.badge.table_id c.into_seat-sitting.result.me.0 c.read_by-seen.new.seat.me.0 c.args.row c.read_by-seen.result h (subst (λ (v : View). is_holding (corner v c.args.row).stage ≡ false) (sym v_is) c.requires.row.1) x.answer rv))
