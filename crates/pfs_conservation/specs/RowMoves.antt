-- What the administration's actions move between rows, and how it stands in the rows' chains.
use Rattle.std.specs.Prelude.{◌≡◌, ◌⊎◌, ℕ, suc, ◌+◌, ◌<◌, ◌≤◌, ◌==◌, ◌&&◌, nat_lt, cond, Bool, true, List, [], ◌∷◌, ◌++◌, count_by}
use Rattle.pfs_conservation.specs.RowChains.{Change, Added, Taken, Given}

-- an action takes a row and gives what it found to each of the others
pub record Move : Type 0 where
  pub action : ℕ
  pub from : ℕ
  pub to : List ℕ

abbrev pub goes_to : ℕ → List ℕ → Bool
goes_to row rows = nat_lt 0 (count_by (λ r. r == row) rows)

-- what a move changes in a row; nothing is given where the take found nothing
abbrev pub touch : (ℕ → ℕ → Bool) → ℕ → Move → List Change
touch kept row move =
    cond (move.from == row) (Taken move.action ∷ [])
    (cond (goes_to row move.to && kept move.action move.from) (Given move.action move.from ∷ []) [])

abbrev pub touches : (ℕ → ℕ → Bool) → ℕ → List Move → List Change
touches kept row [] = []
touches kept row (move ∷ moves) = touch kept row move ++ touches kept row moves

-- the changes that aren't additions
abbrev pub moved : List Change → List Change
moved [] = []
moved (Added events ∷ changes) = moved changes
moved (change ∷ changes) = change ∷ moved changes

-- a row's takes and gives are those that the moves ask for, in the order of the moves
pub record AreMoved (chains : ℕ → List Change) (kept : ℕ → ℕ → Bool) (moves : List Move) : Type 0 where
  pub is : (row : ℕ) → moved (chains row) ≡ touches kept row moves

-- a later move is of a later action, or of the same action from another row of no lower level
abbrev pub IsLater : (ℕ → ℕ) → Move → Move → Type 0
IsLater level first next =
    (first.action < next.action)
    ⊎ ((first.action ≡ next.action) × (level first.from ≤ level next.from) × (first.from ≡ next.from → ⊥))

abbrev pub AllLater : (ℕ → ℕ) → Move → List Move → Type 0
AllLater level first [] = Unit {0}
AllLater level first (next ∷ moves) = IsLater level first next × AllLater level first moves

-- what is given goes to a higher level
abbrev pub Climbs : (ℕ → ℕ) → Move → Type 0
Climbs level move = (row : ℕ) → goes_to row move.to ≡ true → suc (level move.from) ≤ level row

abbrev pub InOrder : (ℕ → ℕ) → List Move → Type 0
InOrder level [] = Unit {0}
InOrder level (move ∷ moves) = Climbs level move × AllLater level move moves × InOrder level moves

-- how often an action gives a row to another
abbrev pub sends : List Move → ℕ → ℕ → ℕ → ℕ
sends [] action from row = 0
sends (move ∷ moves) action from row =
    cond (((move.action == action) && (move.from == from)) && goes_to row move.to) 1 0 + sends moves action from row
