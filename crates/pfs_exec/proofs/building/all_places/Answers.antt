use Rattle.std.proofs.Common.{◌≡◌, ◌++◌, [], ◌∷◌, List, ℕ, sym, ◌∙◌, ap}
use Rattle.pfs_exec.proofs.ObjectNames.{range_next}
use Rattle.pfs_exec.proofs.building.all_places.Goals as goal

pub loop-place-preserved : goal.loop-place-preserved
loop-place-preserved c = c.in_ok-push.ensures.items ∙ (ap (λ (items : List ℕ). items ++ c.loop-place.place ∷ []) c.loop-place.invariant ∙ sym (range_next c.loop-place.place))
