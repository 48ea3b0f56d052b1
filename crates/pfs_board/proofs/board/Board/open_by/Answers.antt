use Rattle.std.proofs.Common.{◌≡◌, ◌∙◌, ℕ, ◌/◌, ◌++◌, List, [], ◌∷◌, length, sym, ap, subst, arith}
use Rattle.std.specs.Prelude.{Option, Some}
use Rattle.atomic_table.specs.Table.{opening}
use Rattle.pfs_board.specs.Knowledge.{held, root}
use Rattle.pfs_board.specs.SeatViews.{first_view, IsReady}
use Rattle.pfs_board.specs.Rule.{Ruled}
use Rattle.pfs_board.proofs.ReadySeats.{ready_root}
use Rattle.pfs_board.proofs.BoardEnds.{opens}
use Rattle.pfs_board.proofs.ViewFacts.{held_new}
use Rattle.pfs_board.proofs.board.Board.open_by.Goals as goal

pub new-requires : goal.new-requires
new-requires g c = let ws : List ℕ = c.in_ok-words.words.items in let slots : c.push_reserved.new.self.items ≡ Some c.args.kept ∷ [] = c.push_reserved.ensures.items ∙ ap (λ z. z ++ Some c.args.kept ∷ []) c.in_ok-slots.ensures.items in
    subst (λ (z : List ℕ × List (Option g.row.V.Denot)). Ruled g.V.Kept.stands_for ws (opening z.0 z.1 (root ws))) (λ i. (sym c.as_slice.ensures.value i, sym slots i))
    (opens g.V.Kept.stands_for ws (length (g.O.Openings.rows c.args.openings.now)) c.args.kept c.in_ok-words.ensures.form c.requires.kept)

pub invariant_of-result-in-Ok : goal.invariant_of-result-in-Ok
invariant_of-result-in-Ok g c = let ws : List ℕ = c.in_ok-words.words.items in let k = c.in-Ok.ensures.ok in let b = c.into_badge.ensures in let form = c.in_ok-words.ensures.form in let long = form.long in
    let r = ready_root c.in-Ok.seat.table_id ws (ap (λ (z : _). z.words) k.2 ∙ (k.0 ∙ ap (length {A = ℕ}) c.as_slice.ensures.value)) (omega arith) in
    let views : c.into_badge.result.views ≡ root ws ∷ [] = b.2 ∙ (λ i. (k.4 i).0 ∷ []) in
    subst (λ z. IsReady z c.into_badge.result.views) (sym b.0) (subst (IsReady c.in-Ok.seat.table_id) (sym views) r)

pub returns-in-Ok-clause-hands : goal.returns-in-Ok-clause-hands
returns-in-Ok-clause-hands g c = let ws : List ℕ = c.in_ok-words.words.items in let k = c.in-Ok.ensures.ok in let b = c.into_badge.ensures in
    ap (λ vs. held (first_view vs).rows) b.2 ∙ ((λ i. held (k.4 i).0.rows) ∙ held_new (length ws / 17))
