-- The turns in which changes are replayed.
use Rattle.std.specs.Prelude.{ℕ, ◌≡◌, ◌<◌, ◌≤◌, ◌⊎◌, ◌==◌, nat_lt, Bool, ◌&&◌, ◌||◌, cond, List, length, slice_get, Some}
use Rattle.pfs_model.specs.Actions.{IsAmong}
use Rattle.pfs_model.specs.Chains.{Each}
use Rattle.pfs_check_contents.specs.declared.changes.RowChange.{RowChange}
use Rattle.pfs_check_contents.specs.ChangeReplays.{AllFollow, done_of}
use Rattle.pfs_check_contents.specs.OrderlyChanges.{AreOrderly}
use Rattle.pfs_check_turns.specs.declared.turns.Step.{Step}
use Rattle.pfs_check_turns.specs.declared.turns.Turn.{Turn}

abbrev pub step_of : ℕ → RowChange → Step
step_of place one = record { row = one.row; version = one.version; action = one.action; place = place }

abbrev pub place_of : Turn → ℕ
place_of turn = turn.place

-- each change has its step at its place
pub record AreListed (changes : List RowChange) (steps : List Step) : Type 0 where
  pub many : length steps ≡ length changes
  pub each : (place : ℕ) (one : RowChange) → slice_get changes place ≡ Some one
      → slice_get steps place ≡ Some (step_of place one)

-- one stands before another along the rows, or with it
pub record IsSortedTo (one other : Step) : Type 0 where
  pub row : one.row ≤ other.row
  pub version : one.row ≡ other.row → one.version ≤ other.version

abbrev pub AreInOrder : List Step → Type 0
AreInOrder steps = (i j : ℕ) (one other : Step) → i ≤ j → slice_get steps i ≡ Some one → slice_get steps j ≡ Some other
    → IsSortedTo one other

-- a place of an action comes before another's, or is the same
abbrev pub IsUpTo : ℕ → ℕ → ℕ → ℕ → Type 0
IsUpTo action at other next = (action < other) ⊎ ((action ≡ other) × (at ≤ next))

-- the later of the last turn, in a change's row, and of its own place
abbrev pub later_test : Turn → Step → Bool
later_test last step = nat_lt step.action last.action || ((step.action == last.action) && nat_lt step.place last.at)

abbrev pub stays : Turn → Step → Bool
stays last step = (last.row == step.row) && later_test last step

abbrev pub next_turn : Turn → Step → Turn
next_turn last step = record {
  action = cond (stays last step) last.action step.action;
  at = cond (stays last step) last.at step.place;
  row = step.row;
  version = step.version;
  place = step.place;
}

-- the turn of a step: that of one of its row up to it, and not before its own place
pub record IsTurnOf (steps : List Step) (index : ℕ) (turn : Turn) : Type 0 where
  pub own : Step
  pub there : slice_get steps index ≡ Some own
  pub row_is : turn.row ≡ own.row
  pub version_is : turn.version ≡ own.version
  pub place_is : turn.place ≡ own.place
  pub reach : IsUpTo own.action own.place turn.action turn.at
  pub maker : ℕ
  pub made : Step
  pub maker_is : slice_get steps maker ≡ Some made
  pub before : maker ≤ index
  pub row_of : made.row ≡ own.row
  pub action_of : turn.action ≡ made.action
  pub at_of : turn.at ≡ made.place

-- along a row the turns never go back
pub record AreAlong (steps : List Step) (turns : List Turn) : Type 0 where
  pub many : length turns ≡ length steps
  pub each : (index : ℕ) (turn : Turn) → slice_get turns index ≡ Some turn → IsTurnOf steps index turn
  pub rises : (i j : ℕ) (one other : Turn) → i ≤ j → slice_get turns i ≡ Some one → slice_get turns j ≡ Some other
      → one.row ≡ other.row → IsUpTo one.action one.at other.action other.at

-- Each change has its place in the order, and there, where the changes are orderly, each is the next of its row.
pub record IsOrderOf (changes : List RowChange) (order : List ℕ) : Type 0 where
  pub within : Each (λ place. place < length changes) order
  pub covers : (place : ℕ) → place < length changes → IsAmong place order
  pub follow : AreOrderly changes → AllFollow (done_of changes order)
