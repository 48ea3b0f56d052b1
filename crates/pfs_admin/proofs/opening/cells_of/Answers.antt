use Rattle.std.proofs.Common.{◌++◌, [], ◌∷◌, List, ℕ, sym, ◌∙◌, ap}
use Rattle.pfs_admin.proofs.LoopLists.{numbers_next}
use Rattle.pfs_admin.proofs.opening.cells_of.Goals as goal

pub loop-id-preserved : goal.loop-id-preserved
loop-id-preserved c =
    c.in_ok-push.ensures.items
    ∙ (ap (λ (items : List ℕ). items ++ c.loop-id.id ∷ []) c.loop-id.invariant ∙ sym (numbers_next c.loop-id.id))
