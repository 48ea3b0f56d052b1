-- The moves of the actions: each action takes, in the order of the rows, each held row that it names.
use Rattle.std.specs.Prelude.{◌≡◌, ℕ, zero, suc, ◌≤◌, ◌==◌, cond, Bool, true, List, [], ◌∷◌, ◌++◌, count_by, Option, Some, None}
use Rattle.pfs_conservation.specs.RowMoves.{Move, goes_to}
use Rattle.pfs_conservation.specs.Tenures.{Owner}

abbrev pub moved_by : Option Owner → ℕ → ℕ → List Move
moved_by None action row = []
moved_by (Some owner) action row = record { action = action; from = row; to = owner.nexts } ∷ []

abbrev pub moves_of : (ℕ → ℕ → Option Owner) → (ℕ → ℕ → Bool) → ℕ → List ℕ → List Move
moves_of holder takes action [] = []
moves_of holder takes action (row ∷ rows) =
    cond (takes action row) (moved_by (holder action row) action row) [] ++ moves_of holder takes action rows

-- the moves of the actions 1 to n
abbrev pub moves_to : (ℕ → ℕ → Option Owner) → (ℕ → ℕ → Bool) → List ℕ → ℕ → List Move
moves_to holder takes rows zero = []
moves_to holder takes rows (suc n) = moves_to holder takes rows n ++ moves_of holder takes (suc n) rows

abbrev pub RowsAfter : (ℕ → ℕ) → ℕ → List ℕ → Type 0
RowsAfter level row [] = Unit {0}
RowsAfter level row (next ∷ rows) = (level row ≤ level next) × (row ≡ next → ⊥) × RowsAfter level row rows

abbrev pub Ranked : (ℕ → ℕ) → List ℕ → Type 0
Ranked level [] = Unit {0}
Ranked level (row ∷ rows) = RowsAfter level row rows × Ranked level rows

-- actions 1 to `last` take rows of the list, and what a row holds goes up
pub record Acts (holder : ℕ → ℕ → Option Owner) (takes : ℕ → ℕ → Bool) (level : ℕ
    → ℕ) (rows : List ℕ) (last : ℕ) : Type 0 where
  pub within : (action row : ℕ) → takes action row ≡ true → (1 ≤ action) × (action ≤ last)
      × (count_by (λ r. r == row) rows ≡ 1)
  pub ranked : Ranked level rows
  pub climbs : (action row : ℕ) (owner : Owner) → takes action row ≡ true → holder action row ≡ Some owner
      → (next : ℕ) → goes_to next owner.nexts ≡ true → suc (level row) ≤ level next
