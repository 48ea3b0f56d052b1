-- What a summary row shows is the merge of the events that count there.
use Rattle.std.specs.Prelude.{◌≡◌, ℕ, ◌^◌, ◌<◌, ◌≤◌, ◌==◌, ◌&&◌, nat_le, nat_lt, cond, Bool, true, false, List, [], ◌∷◌, length, fold, filter, count_by, Option, Some, None}
use Rattle.pfs_conservation.specs.RowChains.{Change, Added, Taken, Sums, with_event, content, Finds}
use Rattle.pfs_conservation.specs.Removals.{removal}
use Rattle.pfs_conservation.specs.Journeys.{came}
use Rattle.pfs_conservation.specs.RowMoves.{Move, AreMoved, InOrder}
use Rattle.pfs_conservation.specs.Ways.{Step, before_by, leave_by, IsPlaced}

-- each of these events is one of the list, once
abbrev pub Once : List ℕ → List ℕ → Type 0
Once all [] = Unit {0}
Once all (e ∷ es) = (count_by (λ y. e == y) all ≡ 1) × Once all es

-- each event that a chain counts is one of the list, once
abbrev pub AddsOnce : List ℕ → List Change → Type 0
AddsOnce all [] = Unit {0}
AddsOnce all (Added es ∷ cs) = Once all es × AddsOnce all cs
AddsOnce all (c ∷ cs) = AddsOnce all cs

-- the first action from this number on that moves what stands in the row
abbrev pub first_moving : ℕ → ℕ → List Move → Option ℕ
first_moving least row [] = None
first_moving least row (move ∷ moves) =
    cond ((move.from == row) && nat_le least move.action) (Some move.action) (first_moving least row moves)

-- an event counts where no covering action takes its row after it was added, or comes later than the first that does
abbrev pub counts_after : Option ℕ → List ℕ → Bool
counts_after None covers = true
counts_after (Some action) [] = true
counts_after (Some action) (cover ∷ covers) = nat_lt cover action && counts_after (Some action) covers

abbrev pub AtMost : Option ℕ → ℕ → Type 0
AtMost None action = ⊥
AtMost (Some least) action = least ≤ action

-- rows that an event passes one after the other, from its home on
abbrev pub Follows : (ℕ → Option ℕ) → ℕ → ℕ → List ℕ → Type 0
Follows before home from [] = Unit {0}
Follows before home from (row ∷ rows) = (before row ≡ Some from) × ((row == home) ≡ false)
    × Follows before home row rows

-- from an event's removal on, no row of the path is moved before the row below it
abbrev pub Nested : List Move → ℕ → ℕ → List ℕ → Type 0
Nested moves least row [] = Unit {0}
Nested moves least row (next ∷ rows) =
    ((action : ℕ) → first_moving least next moves ≡ Some action → AtMost (first_moving least row moves) action)
    × Nested moves least next rows

abbrev pub NestedFrom : List Move → ℕ → List ℕ → Type 0
NestedFrom moves least [] = Unit {0}
NestedFrom moves least (row ∷ rows) = Nested moves least row rows

abbrev pub last_of : ℕ → List ℕ → ℕ
last_of row [] = row
last_of row (next ∷ rows) = last_of next rows

-- the action at which an event that left its home at `least` leaves the last row of its path
abbrev pub last_moving : ℕ → List ℕ → List Move → Option ℕ
last_moving least [] moves = Some least
last_moving least (row ∷ rows) moves = first_moving least (last_of row rows) moves

abbrev pub waits : Option ℕ → Bool
waits None = true
waits (Some action) = false

-- A summary row as one event has it: `path` are the rows above its home that are shown with it, and `leads` says
-- whether it leads there. Where the event stands, the summary row shows it once if it leads there and that row is on
-- the path, and else not; and if it leads there, from its removal on an action covers the table exactly where one
-- moves the last row of the path.
pub record Shows (chains : ℕ → List Change) (moves : List Move) (event home : ℕ) (steps : List Step)
    (shown covers path : List ℕ) (leads : Bool) : Type 0 where
  pub follows : Follows (before_by steps) home home path
  pub nested : (least : ℕ) → removal event (chains home) ≡ Some least → NestedFrom moves least path
  pub covered : leads ≡ true → (least : ℕ) → removal event (chains home) ≡ Some least
      → counts_after (Some least) covers ≡ waits (last_moving least path moves)
  pub once : (row : ℕ) → came home (before_by steps) (leave_by chains event home steps) row ≡ 1
      → leave_by chains event home steps row ≡ None
      → count_by (λ r. r == row) shown ≡ cond leads (count_by (λ r. r == row) (home ∷ path)) 0

-- All journals up to a phase's end, as far as the cells of one class and the rows above them are concerned.
-- Events and rows go by numbers; an event's home is the row that it is counted in.
pub record Journals (A : Type 0) : Type 0 where
  pub events : List ℕ
  pub chains : ℕ → List Change
  pub moves : List Move
  pub found : ℕ → ℕ → A
  pub level : ℕ → ℕ
  pub height : ℕ
  pub home : ℕ → ℕ
  pub steps : ℕ → List Step

abbrev pub IsEvent : {A : Type 0} → Journals A → ℕ → Type 0
IsEvent j event = 1 ≤ count_by (λ e. event == e) j.events

-- what conservation rests on
pub record AreKept {A : Type 0} (sums : Sums A) (size : A → ℕ) (j : Journals A) : Type 0 where
  pub few : length j.events < 2 ^ 64
  pub flat : (row : ℕ) → j.level row ≤ j.height
  pub order : InOrder j.level j.moves
  pub moved : AreMoved j.chains (λ action row. nat_lt 0 (size (j.found action row))) j.moves
  pub finds : Finds sums j.chains j.found
  pub once : (row : ℕ) → AddsOnce j.events (j.chains row)
  pub placed : (event : ℕ) → IsEvent j event → IsPlaced j.chains j.level j.moves event (j.home event) (j.steps event)

-- a summary row shows these rows, is covered by these actions, and has these events lead to it
pub record IsSummary {A : Type 0} (j : Journals A) (shown covers : List ℕ) (path : ℕ → List ℕ) (leads : ℕ
    → Bool) : Type 0 where
  pub shows : (event : ℕ) → IsEvent j event
      → Shows j.chains j.moves event (j.home event) (j.steps event) shown covers (path event) (leads event)

-- an event counts in a summary row
abbrev pub counts_in : {A : Type 0} → Journals A → List ℕ → (ℕ → Bool) → ℕ → Bool
counts_in j covers leads event = leads event && counts_after (removal event (j.chains (j.home event))) covers

-- the rows shown, put together, are the events that count, put together
abbrev pub IsConserved : {A : Type 0} → Sums A → Journals A → List ℕ → List ℕ → (ℕ → Bool) → Type 0
IsConserved sums j shown covers leads =
    fold (λ sum row. sums.merge sum (content sums j.found (j.chains row))) sums.nothing shown
    ≡ fold (with_event sums) sums.nothing (filter (counts_in j covers leads) j.events)

-- the actions that take a row along its changes
abbrev pub takes_of : List Change → List ℕ
takes_of [] = []
takes_of (Taken action ∷ changes) = action ∷ takes_of changes
takes_of (change ∷ changes) = takes_of changes

-- what the rows shown hold and what the takes of one row found, put together, are the events that lead there, put
-- together
abbrev pub IsShownOrTaken : {A : Type 0} → Sums A → Journals A → List ℕ → ℕ → (ℕ → Bool) → Type 0
IsShownOrTaken sums j shown global leads =
    fold (λ sum action. sums.merge sum (j.found action global))
    (fold (λ sum row. sums.merge sum (content sums j.found (j.chains row))) sums.nothing shown)
    (takes_of (j.chains global))
    ≡ fold (with_event sums) sums.nothing (filter leads j.events)

-- what the global row shows and what the takes of its cell found, put together, are all events, put together
abbrev pub IsDiscarded : {A : Type 0} → Sums A → Journals A → List ℕ → ℕ → Type 0
IsDiscarded sums j shown global =
    fold (λ sum action. sums.merge sum (j.found action global))
    (fold (λ sum row. sums.merge sum (content sums j.found (j.chains row))) sums.nothing shown)
    (takes_of (j.chains global))
    ≡ fold (with_event sums) sums.nothing j.events
