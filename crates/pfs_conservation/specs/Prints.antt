-- What an action prints: move after move, each take followed by its gives.
use Rattle.std.specs.Prelude.{◌≡◌, ℕ, ◌<◌, ◌≤◌, ◌==◌, ◌&&◌, cond, Bool, true, false, List, [], ◌∷◌, ◌++◌, length}
use Rattle.pfs_conservation.specs.RowChains.{Change, Taken, Given}
use Rattle.pfs_conservation.specs.RowMoves.{Move}
use Rattle.pfs_conservation.specs.PrintedChanges.{Kind, Adds, Tagged, change_of, standing, Stands, IsMove, action_of, Within}

pub record Print : Type 0 where
  pub row : ℕ
  pub change : Change

abbrev pub gives_of : (ℕ → ℕ → Bool) → Move → List ℕ → List Print
gives_of kept move [] = []
gives_of kept move (row ∷ rows) = cond (kept move.action move.from) (record {
  row = row;
  change = Given move.action move.from;
} ∷ []) [] ++ gives_of kept move rows

-- a move's take, and its gives, if the take found something
abbrev pub prints_of : (ℕ → ℕ → Bool) → Move → List Print
prints_of kept move = record { row = move.from; change = Taken move.action } ∷ gives_of kept move move.to

abbrev pub prints_all : (ℕ → ℕ → Bool) → List Move → List Print
prints_all kept [] = []
prints_all kept (move ∷ moves) = prints_of kept move ++ prints_all kept moves

abbrev pub is_move : Kind → Bool
is_move (Adds events) = false
is_move kind = true

-- the takes and gives of an action as they are printed
abbrev pub printed_by : List Tagged → ℕ → List Print
printed_by [] action = []
printed_by (line ∷ lines) action = cond (is_move line.kind && (line.action == action)) (record {
  row = line.row;
  change = change_of line;
} ∷ []) [] ++ printed_by lines action

-- along a session the versions of a row rise
abbrev pub Above : Tagged → List Tagged → Type 0
Above line [] = Unit {0}
Above line (next ∷ lines) = (line.session ≡ next.session → line.row ≡ next.row → line.version < next.version)
    × Above line lines

abbrev pub Rises : List Tagged → Type 0
Rises [] = Unit {0}
Rises (line ∷ lines) = Above line lines × Rises lines

-- an action is one session's
abbrev pub AreBy : (ℕ → ℕ) → List Tagged → Type 0
AreBy by [] = Unit {0}
AreBy by (line ∷ lines) = (is_move line.kind ≡ true → line.session ≡ by line.action) × AreBy by lines

-- the rules in the order of print: each action prints what it asks for, in that order, in one session's journal;
-- versions rise along a session; and along a row the numbers of actions never fall
pub record AreActed (kept : ℕ → ℕ → Bool) (holder_moves : ℕ → List Move) (last : ℕ) (lines : List Tagged) : Type 0 where
  pub low : (row version : ℕ) (change : Change) → Stands lines row version change → row < 16384
  pub within : Within lines lines
  pub once : (row version : ℕ) → length (standing lines row version) ≤ 1
  pub numbers : (row version : ℕ) (change : Change) → Stands lines row version change → IsMove change
      → (1 ≤ action_of change) × (action_of change ≤ last)
  pub never_fall : (row low high : ℕ) (first next : Change) → low < high → Stands lines row low first
      → Stands lines row high next → IsMove first → IsMove next → action_of first ≤ action_of next
  pub by : ℕ → ℕ
  pub are_by : AreBy by lines
  pub rises : Rises lines
  pub asks : (action : ℕ) → printed_by lines action ≡ prints_all kept (holder_moves action)
