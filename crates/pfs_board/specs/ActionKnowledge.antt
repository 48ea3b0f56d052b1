-- What a seat knows after it has waited for row 0, and after it has begun an action.
use Rattle.std.specs.Prelude.{◌≡◌, ℕ, ◌+◌, ◌≤◌, true, List, ◌∷◌, length, slice_set, Option, Some}
use Rattle.atomic_table.specs.Table.{Me}
use Rattle.pfs_board.specs.declared.view.Label.{Label}
use Rattle.pfs_board.specs.declared.view.View.{View}
use Rattle.pfs_board.specs.Knowledge.{corner, held, found_in, label_told, begun_with, halfway}

-- A seat that knew v has looked at row 0 in vain, any number of times
pub record HasWaited (v w : View) : Type 0 where
  pub view_is : w ≡ record v { looks = w.looks; rows = slice_set v.rows 0 (corner w 0) }
  pub more : v.looks ≤ w.looks
  pub later : (corner v 0).seen ≤ (corner w 0).seen
  pub hands : held w.rows ≡ held v.rows

-- A seat has taken row 0 after the actions of k labels, and with it the value
abbrev pub HasTaken : {K : Type 0} → (K → List Label → Type 0) → Me (Option K) View → ℕ → Me (Option K) View → Type 0
HasTaken {K} means m k m' = (labels : List Label) × (found : List ℕ) × (x : K) × (length labels ≡ k)
    × (length found ≡ 16) × means x labels
    × (m' ≡ (
      halfway (record (begun_with m.0 (label_told m.0) labels found) { looks = m'.0.looks }) true,
      (0, Some x) ∷ m.1,
    ))

-- A seat that knew v has begun an action with this label. To wait it told the label's two numbers, each by an
-- exchange, and tried at least once, by a load and an exchange
pub record HasBegun (v : View) (label : Label) (w : View) : Type 0 where
  pub looks : v.looks + 4 ≤ w.looks
  pub later : (corner v 0).seen ≤ length w.labels
  pub found : length (found_in (corner w 0).stage) ≡ 16
  pub view_is : w ≡ record (begun_with v label w.labels (found_in (corner w 0).stage)) { looks = w.looks }
