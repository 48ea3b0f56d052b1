-- The labels of actions.
use Rattle.std.specs.Prelude.{ℕ, ◌≡◌, ◌+◌, ◌-◌, ◌==◌, cond, List, [], ◌∷◌, ◌++◌, length, slice_get, Some}
use Rattle.pfs_board.specs.declared.view.Label.{Label}
use Rattle.pfs_check_versions.specs.declared.changes.PlacedChange.{PlacedChange}

-- those of a session
abbrev pub own_changes : ℕ → List PlacedChange → List PlacedChange
own_changes session [] = []
own_changes session (one ∷ others) = cond (one.session == session) (one ∷ []) [] ++ own_changes session others

-- the number of an action
abbrev pub IsAction : PlacedChange → Type 0
IsAction one = one.change.row ≡ 0

-- By its number each action has the label of its session, with 1, 2 and so on along the session.
pub record AreLabelled (actions : List PlacedChange) (labels : List Label) : Type 0 where
  pub few : length labels ≡ length actions
  pub each : (session at : ℕ) (one : PlacedChange) → slice_get (own_changes session actions) at ≡ Some one
      → slice_get labels (one.change.version - 1) ≡ Some (record { session = session; line = at + 1 })
