use Rattle.std.proofs.Common.{◌≡◌, ℕ, List, sym, ap, subst}
use Rattle.pfs_board.specs.declared.view.View.{View}
use Rattle.pfs_board.specs.WholeSeats.{History}
use Rattle.pfs_board.specs.History.{labels_of}
use Rattle.pfs_board.specs.SeatViews.{first_view}
use Rattle.pfs_board.proofs.ReadySeats.{view_of_seat}
use Rattle.pfs_board.proofs.board.Board.lend.Goals as goal

pub returns-clause-history : goal.returns-clause-history
returns-clause-history g c = let s = c.into_seat-sitting.ensures in let b = c.replace-badge.ensures.value in let e = c.into_badge.ensures in
    let v_is = view_of_seat c.seat.inside.badge.table_id c.seat.inside.badge.views c.replace-badge.result.views c.into_seat-sitting.result.me.0 c.args.seat.now s.2 (λ i. (b i).views) c.seat.view_is in
    let w_is : c.lend_by-value.new.seat.me.0 ≡ first_view c.into_badge.result.views = sym (ap first_view e.2) in
    subst (λ (z : View × View). (words : List ℕ) × (h : History z.0.start words z.0) × (z.1.labels ≡ labels_of h.t.log)) (λ i. (v_is i, w_is i)) c.lend_by-value.ensures.history
