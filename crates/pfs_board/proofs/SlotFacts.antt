-- The slot of the kept value, in the hand of a seat, before and after an exchange.
use Rattle.std.proofs.Common.{◌≡◌, ℕ, List, [], ◌∷◌, sym, refl, ap, ◌∙◌}
use Rattle.std.specs.Prelude.{Option}
use Rattle.atomic_table.specs.Table.{rest}
use Rattle.pfs_board.specs.declared.view.Stage.{Stage}
use Rattle.pfs_board.specs.declared.view.Stage.TheVariants.{Idle, Reading, Holding}
use Rattle.pfs_board.specs.Knowledge.{stored_in}
use Rattle.pfs_board.specs.SeatDemands.{IsCalm}

module _ {K : Type 0} where
  pub in_hand : (cs r : List (ℕ × Option K)) (x : Option K) → cs ≡ (0, x) ∷ r → (y : Option K) × (cs ≡ (0, y) ∷ rest cs)
  in_hand cs r x e = (x, e ∙ ap (λ (z : List (ℕ × Option K)). (0, x) ∷ z) (sym (ap rest e)))

-- between calls nothing is stored
pub calm_stored : (st : Stage) → IsCalm st → stored_in st ≡ []
calm_stored Idle c = refl
calm_stored (Reading k xs) c = refl
calm_stored (Holding k found put) c = c
