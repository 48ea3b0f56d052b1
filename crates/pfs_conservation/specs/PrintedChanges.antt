-- Printed changes, each with its row, its version and its action, and the chains that they make.
use Rattle.std.specs.Prelude.{◌≡◌, ◌⊎◌, ℕ, zero, suc, ◌+◌, ◌^◌, ◌<◌, ◌≤◌, ◌==◌, ◌&&◌, cond, Bool, true, List, [], ◌∷◌, ◌++◌, length, count_by, Option, Some, None}
use Rattle.pfs_conservation.specs.RowChains.{Change, Added, Taken, Given}
use Rattle.pfs_conservation.specs.RowMoves.{Move, touches}
use Rattle.pfs_conservation.specs.Conservation.{Once}
use Rattle.pfs_conservation.specs.PlaceFolds.{State, entry_at}
use Rattle.pfs_conservation.specs.AdministrationFold.{Action, Quit, numbered, state_after}
use Rattle.pfs_conservation.specs.Tenures.{IsBy}
use Rattle.pfs_conservation.specs.CellHolders.{Numbering}
use Rattle.pfs_conservation.specs.KindSummaries.{Whose, OfSession, Aside, home_at}

pub data Kind : Type 0 where
  Adds : List ℕ → Kind  -- these events
  Takes : Kind
  Gives : ℕ → Kind  -- what was taken from this row

-- a line of a session's journal that changes a row; additions have no action
pub record Tagged : Type 0 where
  pub session : ℕ
  pub action : ℕ
  pub row : ℕ
  pub version : ℕ
  pub kind : Kind

abbrev pub as_change : ℕ → Kind → Change
as_change action (Adds events) = Added events
as_change action Takes = Taken action
as_change action (Gives from) = Given action from

abbrev pub change_of : Tagged → Change
change_of line = as_change line.action line.kind

abbrev pub is_at : Tagged → ℕ → ℕ → Bool
is_at line row version = (line.row == row) && (line.version == version)

-- the changes of a row at a version
abbrev pub standing : List Tagged → ℕ → ℕ → List Change
standing [] row version = []
standing (line ∷ lines) row version =
    cond (is_at line row version) (change_of line ∷ []) [] ++ standing lines row version

-- how many changes a row has
abbrev pub changes_of : List Tagged → ℕ → ℕ
changes_of [] row = 0
changes_of (line ∷ lines) row = cond (line.row == row) 1 0 + changes_of lines row

-- the changes of a row from a version on, so many versions
abbrev pub chain_from : List Tagged → ℕ → ℕ → ℕ → List Change
chain_from lines row version zero = []
chain_from lines row version (suc more) = standing lines row version ++ chain_from lines row (suc version) more

abbrev pub chain_of : List Tagged → ℕ → List Change
chain_of lines row = chain_from lines row 1 (changes_of lines row)

-- a row's change at a version
abbrev pub Stands : List Tagged → ℕ → ℕ → Change → Type 0
Stands [] row version change = ⊥
Stands (line ∷ lines) row version change = ((is_at line row version ≡ true) × (change_of line ≡ change))
    ⊎ Stands lines row version change

-- a change is among these
abbrev pub IsAmong : Change → List Change → Type 0
IsAmong change [] = ⊥
IsAmong change (other ∷ changes) = (other ≡ change) ⊎ IsAmong change changes

-- takes and gives: the action, and the row that was taken
abbrev pub IsMove : Change → Type 0
IsMove (Added events) = ⊥
IsMove change = Unit {0}

abbrev pub action_of : Change → ℕ
action_of (Added events) = 0
action_of (Taken action) = action
action_of (Given action from) = action

abbrev pub source_of : ℕ → Change → ℕ
source_of row (Added events) = 0
source_of row (Taken action) = row
source_of row (Given action from) = from

-- each line's version is from 1 to the number of changes of its row
abbrev pub Within : List Tagged → List Tagged → Type 0
Within all [] = Unit {0}
Within all (line ∷ lines) = (1 ≤ line.version) × (line.version ≤ changes_of all line.row) × Within all lines

-- each event that a line adds is one of the list, once
abbrev pub KindOnce : List ℕ → Kind → Type 0
KindOnce all (Adds events) = Once all events
KindOnce all kind = Unit {0}

abbrev pub AllOnce : List ℕ → List Tagged → Type 0
AllOnce all [] = Unit {0}
AllOnce all (line ∷ lines) = KindOnce all line.kind × AllOnce all lines

abbrev pub times_in : ℕ → Kind → ℕ
times_in event (Adds events) = count_by (λ x. x == event) events
times_in event kind = 0

-- how often lines of a row add an event
abbrev pub times_added : ℕ → List Tagged → ℕ → ℕ
times_added event [] row = 0
times_added event (line ∷ lines) row = cond (line.row == row) (times_in event line.kind) 0 + times_added event lines row

-- the rules of chains: each version from 1 on once; along a row the numbers of actions never fall; within an action the
-- rows that are taken rise; each take and give that an action asks for is printed, and no other
pub record AreChained (kept : ℕ → ℕ → Bool) (moves : List Move) (lines : List Tagged) : Type 0 where
  pub low : (row version : ℕ) (change : Change) → Stands lines row version change → row < 16384
  pub within : Within lines lines
  pub once : (row version : ℕ) → length (standing lines row version) ≤ 1
  pub never_fall : (row low high : ℕ) (first next : Change) → low < high → Stands lines row low first
      → Stands lines row high next → IsMove first → IsMove next → action_of first ≤ action_of next
  pub in_order : (row low high : ℕ) (first next : Change) → low < high → Stands lines row low first
      → Stands lines row high next → IsMove first → IsMove next → action_of first ≡ action_of next
      → source_of row first < source_of row next
  pub asked : (row version : ℕ) (change : Change) → Stands lines row version change → IsMove change
      → IsAmong change (touches kept row moves)
  pub printed : (row : ℕ) (change : Change) → IsAmong change (touches kept row moves)
      → (version : ℕ) × Stands lines row version change

-- the rules of an event's addition: at its home and once; by a session that stood at its slot after its connect;
-- above each change of the row that an action up to the connect made; and below the take of its session's quit
abbrev pub Adding : List Tagged → ℕ → ℕ → ℕ → Type 0
Adding lines event row version = (events : List ℕ) × Stands lines row version (Added events)
    × (1 ≤ count_by (λ x. x == event) events)

abbrev pub QuitAbove : Option ℕ → List Tagged → ℕ → ℕ → Type 0
QuitAbove None lines row version = Unit {0}
QuitAbove (Some quit) lines row version = (above : ℕ) × (version < above) × Stands lines row above (Taken quit)

abbrev pub IsAdded : State → List Action → List Tagged → Numbering → ℕ → Whose → Type 0
IsAdded opening actions lines n event (OfSession cell slot x connect quit) =
    (n.is_cell cell ≡ true) × (entry_at (state_after opening (numbered actions) connect).threads slot ≡ Some x)
    × (connect ≤ length actions)
    × ((k : ℕ) → suc connect ≤ k → IsBy quit (suc k) → numbered actions k ≡ Quit x.number → ⊥)
    × ((version : ℕ) → Adding lines event (home_at n (OfSession cell slot x connect quit)) version
    → (at : ℕ) (change : Change) → Stands lines (home_at n (OfSession cell slot x connect quit)) at change
    → IsMove change → action_of change ≤ connect → at < version)
    × ((version : ℕ) → Adding lines event (home_at n (OfSession cell slot x connect quit)) version
    → QuitAbove quit lines (home_at n (OfSession cell slot x connect quit)) version)
IsAdded opening actions lines n event (Aside cell) = n.is_cell cell ≡ true

pub record AreAdded (n : Numbering) (opening : State) (actions : List Action) (events : List ℕ) (lines : List Tagged)
    (whose : ℕ → Whose) : Type 0 where
  pub few : length events < 2 ^ 64
  pub once : AllOnce events lines
  pub counted : (event : ℕ) → 1 ≤ count_by (λ e. event == e) events → (row : ℕ)
      → times_added event lines row ≡ cond (row == home_at n (whose event)) 1 0
  pub added : (event : ℕ) → 1 ≤ count_by (λ e. event == e) events → IsAdded opening actions lines n event (whose event)
