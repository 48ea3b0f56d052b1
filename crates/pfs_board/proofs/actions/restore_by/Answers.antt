use Rattle.std.proofs.Common.{◌∙◌, ◌∷◌, ℕ, List, subst, inl, sym, ap, arith}
use Rattle.std.specs.Prelude.{Option, Some}
use Rattle.atomic_table.specs.Table.{rest}
use Rattle.pfs_board.proofs.CallSteps.{row_in}
use Rattle.pfs_board.proofs.ValueLoans.{fetch_keeps, restore_keeps}
use Rattle.pfs_board.proofs.actions.restore_by.Goals as goal

pub load-requires : goal.load-requires
load-requires g c = let at = c.requires.at in (at.same, at.inside, fetch_keeps g.V.Kept.stands_for c.args.top.now.key.items _ _ c.args.seat.now.me (row_in _ _ _ _ 0 at) at.live c.requires.calm.1 (inl c.requires.out.1))

pub load-requires-2 : goal.load-requires-2
load-requires-2 g c = let at = c.requires.at in let x = c.load.ensures in let l = x.2.0 in let e = c.exchange.ensures in let slots = c.requires.slots in (
  e.0 ∙ (x.0 ∙ at.same),
  at.inside,
  restore_keeps g.V.Kept.stands_for c.args.top.now.key.items _ _ c.exchange.new.seat.me c.args.value 0 (omega arith) ((λ i. (e.3 i).0.live) ∙ ((λ i. (l i).0.live) ∙ at.live)) ((λ i. (e.3 i).0.action) ∙ ((λ i. (l i).0.action) ∙ c.requires.out.0))
      ((λ i. (e.3 i).0.lent) ∙ ((λ i. (l i).0.lent) ∙ c.requires.out.1)) ((λ i. (e.3 i).1) ∙ (λ i. (0, Some c.args.value) ∷ rest (l i).1) ∙ ap (λ (z : List (ℕ × Option g.row.V.Denot)). (0, Some c.args.value) ∷ z) c.requires.calm.0)
      (subst (g.V.Kept.stands_for c.args.value) (sym ((λ i. (e.3 i).0.labels) ∙ (λ i. (l i).0.labels))) c.requires.value),
)
