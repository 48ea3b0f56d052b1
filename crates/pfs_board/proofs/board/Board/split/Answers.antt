use Rattle.std.proofs.Common.{◌≡◌, ◌∙◌, ◌⊎◌, ◌+◌, ◌<◌, false, [], ◌∷◌, get_or, sym, ap, subst, arith}
use Rattle.pfs_board.specs.declared.view.View.{View}
use Rattle.pfs_board.specs.Knowledge.{held, told, split_left, split_right}
use Rattle.pfs_board.specs.SeatViews.{Known, Place, IsReady, first_view, split_off, given}
use Rattle.pfs_board.proofs.ReadySeats.{view_of_seat, ready_view, ready_left, ready_right, said_none}
use Rattle.pfs_board.proofs.Looks.{tell_keeps}
use Rattle.pfs_board.proofs.ViewFacts.{held_stale, held_start}
use Rattle.pfs_board.proofs.Seats.{splits}
use Rattle.pfs_board.proofs.board.Board.split.Goals as goal

pub compare_exchange-requires : goal.compare_exchange-requires
compare_exchange-requires g c = let s = c.into_seat-sitting.ensures in let b = c.replace-badge.ensures.value in let sized = c.self.invariant in let some_row = sized.some_row in let words = sized.words in
    let rv = ready_view c.seat.inside.badge.table_id c.seat.inside.badge.views c.replace-badge.result.views c.into_seat-sitting.result.me.0 s.2 (λ i. (b i).views) c.seat.invariant in
    let home : c.args.self.now.id ≡ c.self.inside.table.shared.table_id = ap (λ (p : Place). p.id) (sym c.self.view_is) in (
      s.0 ∙ ((λ i. (b i).table_id) ∙ (ap (λ (k : Known). k.board) c.seat.view_is ∙ (c.requires.board ∙ home))),
      omega arith,
      tell_keeps g.V.Kept.stands_for c.self.inside.table.shared.key.items _ _ c.into_seat-sitting.result.me c.args.allowance rv.live,
    )

pub split_seat-other-requires : goal.split_seat-other-requires
split_seat-other-requires g c = let s = c.into_seat-sitting.ensures in let b = c.replace-badge.ensures.value in let x = c.compare_exchange.ensures in let sized = c.self.invariant in let some_row = sized.some_row in let words = sized.words in
    let v_is = view_of_seat c.seat.inside.badge.table_id c.seat.inside.badge.views c.replace-badge.result.views c.into_seat-sitting.result.me.0 c.args.seat.now s.2 (λ i. (b i).views) c.seat.view_is in
    let rv = ready_view c.seat.inside.badge.table_id c.seat.inside.badge.views c.replace-badge.result.views c.into_seat-sitting.result.me.0 s.2 (λ i. (b i).views) c.seat.invariant in
    let home : c.args.self.now.id ≡ c.self.inside.table.shared.table_id = ap (λ (p : Place). p.id) (sym c.self.view_is) in
    let told_is : c.compare_exchange.new.seat.me.0 ≡ told c.into_seat-sitting.result.me.0 c.args.allowance = λ i. (x.2 i).0 in
    let a_is : get_or c.compare_exchange.new.seat.me.0.said 0 0 ≡ c.args.allowance = ap (λ (y : View). get_or y.said 0 0) told_is in let some_given = c.requires.allowance.0 in let room = c.requires.allowance.1 in
    let held_is : held c.compare_exchange.new.seat.me.0.rows ≡ held c.args.seat.now.view.rows = ap (λ (y : View). held y.rows) told_is ∙ ap (λ (y : View). held y.rows) v_is in
    let allowance_is : c.compare_exchange.new.seat.me.0.allowance ≡ c.args.seat.now.view.allowance = ap (λ (y : View). y.allowance) told_is ∙ ap (λ (y : View). y.allowance) v_is in (
      x.0 ∙ (s.0 ∙ ((λ i. (b i).table_id) ∙ (ap (λ (k : Known). k.board) c.seat.view_is ∙ (c.requires.board ∙ home)))),
      omega arith,
      splits g.V.Kept.stands_for c.self.inside.table.shared.key.items c.compare_exchange.new.seat.id c.compare_exchange.new.seat.me.0 (ap (λ (y : View). y.live) told_is ∙ rv.live) (ap (λ (y : View). y.number) told_is ∙ (ap (λ (y : View). y.number) v_is ∙ c.requires.root)) (omega arith) (omega arith)
          (subst (λ (y : View). (y.lent ≡ false) ⊎ (0 < y.action)) (sym (told_is ∙ ap (λ (y : View). told y c.args.allowance) v_is)) c.requires.home),
    )

pub invariant_of-seat : goal.invariant_of-seat
invariant_of-seat g c = let s = c.into_seat-sitting.ensures in let b = c.replace-badge.ensures.value in let x = c.compare_exchange.ensures in let p = c.split_seat-other.ensures in let e = c.into_badge.ensures in
    let rv = ready_view c.seat.inside.badge.table_id c.seat.inside.badge.views c.replace-badge.result.views c.into_seat-sitting.result.me.0 s.2 (λ i. (b i).views) c.seat.invariant in
    let told_is : c.compare_exchange.new.seat.me.0 ≡ record c.into_seat-sitting.result.me.0 { looks = c.into_seat-sitting.result.me.0.looks + 1; said = c.args.allowance ∷ [] } = (λ i. (x.2 i).0) ∙ said_none c.into_seat-sitting.result.me.0 c.args.allowance rv.quiet in
    let table : c.into_badge.result.table_id ≡ c.seat.inside.badge.table_id = e.0 ∙ (p.0 ∙ (x.0 ∙ (s.0 ∙ (λ i. (b i).table_id)))) in
    let views : c.into_badge.result.views ≡ split_off c.into_seat-sitting.result.me.0 c.args.allowance ∷ [] = e.2 ∙ ((λ i. (p.2 i).0 ∷ []) ∙ ap (λ (y : View). split_left y ∷ []) told_is) in
    subst (λ z. IsReady z c.into_badge.result.views) (sym table) (subst (IsReady c.seat.inside.badge.table_id) (sym views) (ready_left c.seat.inside.badge.table_id c.into_seat-sitting.result.me.0 c.args.allowance rv))

pub invariant_of-result : goal.invariant_of-result
invariant_of-result g c = let s = c.into_seat-sitting.ensures in let b = c.replace-badge.ensures.value in let x = c.compare_exchange.ensures in let p = c.split_seat-other.ensures in let e = c.into_badge-2.ensures in
    let rv = ready_view c.seat.inside.badge.table_id c.seat.inside.badge.views c.replace-badge.result.views c.into_seat-sitting.result.me.0 s.2 (λ i. (b i).views) c.seat.invariant in
    let told_is : c.compare_exchange.new.seat.me.0 ≡ record c.into_seat-sitting.result.me.0 { looks = c.into_seat-sitting.result.me.0.looks + 1; said = c.args.allowance ∷ [] } = (λ i. (x.2 i).0) ∙ said_none c.into_seat-sitting.result.me.0 c.args.allowance rv.quiet in
    let table : c.into_badge-2.result.table_id ≡ c.seat.inside.badge.table_id = e.0 ∙ (p.3 ∙ (x.0 ∙ (s.0 ∙ (λ i. (b i).table_id)))) in
    let views : c.into_badge-2.result.views ≡ given c.into_seat-sitting.result.me.0 c.args.allowance ∷ [] = e.2 ∙ ((λ i. (p.4 i).0 ∷ []) ∙ ap (λ (y : View). split_right y ∷ []) told_is) in
    subst (λ z. IsReady z c.into_badge-2.result.views) (sym table) (subst (IsReady c.seat.inside.badge.table_id) (sym views) (ready_right c.seat.inside.badge.table_id c.into_seat-sitting.result.me.0 c.args.allowance rv))

pub returns-clause-hands : goal.returns-clause-hands
returns-clause-hands g c = let s = c.into_seat-sitting.ensures in let b = c.replace-badge.ensures.value in let x = c.compare_exchange.ensures in let p = c.split_seat-other.ensures in let e = c.into_badge.ensures in let f = c.into_badge-2.ensures in
    let v_is = view_of_seat c.seat.inside.badge.table_id c.seat.inside.badge.views c.replace-badge.result.views c.into_seat-sitting.result.me.0 c.args.seat.now s.2 (λ i. (b i).views) c.seat.view_is in
    let told_is : c.compare_exchange.new.seat.me.0.rows ≡ c.into_seat-sitting.result.me.0.rows = λ i. (x.2 i).0.rows in (
      ap (λ vs. held (first_view vs).rows) e.2 ∙ ((λ i. held (p.2 i).0.rows) ∙ (held_stale c.compare_exchange.new.seat.me.0.rows ∙ (ap held told_is ∙ ap (λ (v : View). held v.rows) v_is))),
      ap (λ vs. held (first_view vs).rows) f.2 ∙ ((λ i. held (p.4 i).0.rows) ∙ held_start c.compare_exchange.new.seat.me.0.rows),
    )
