-- The calls of a store, each with its arguments and its answer. Lists of calls have the newest first.
use Rattle.std.specs.Prelude.{ℕ, ◌≡◌, List, [], ◌∷◌, ◌++◌, ◌+◌, ◌-◌, ◌%◌, ◌<◌, ◌≤◌, ◌==◌, ◌⊎◌, if◌then◌else◌, Option, Some, None, length, slice_index, slice_set}
use Rattle.std.specs.List.{slice_index_or}
use Rattle.atomic_table.specs.Seated.{TableId}
use Rattle.pfs_board.specs.Knowledge.{no_label}
use Rattle.pfs_board.specs.declared.view.Label.{Label}
use Rattle.pfs_rows.specs.declared.table.Seen.{Seen}
use Rattle.pfs_stat.specs.declared.Stat.{Stat}
use Rattle.pfs_levels.specs.declared.answers.Added.{Added}
use Rattle.pfs_levels.specs.declared.answers.Added.TheVariants.{Counted, Held}
use Rattle.pfs_levels.specs.declared.answers.RingPut.{RingPut}
use Rattle.pfs_levels.specs.declared.answers.RingPut.TheVariants.{Done, Busy, Late}
use Rattle.pfs_levels.specs.declared.answers.Word.{Word}

pub data Call : Type 0 where
  Adds : ℕ → Stat → Added → Call  -- to a row, this amount
  Rings : ℕ → List ℕ → RingPut → Call  -- to a row, this content
  Reads : ℕ → Seen → Call  -- of a row
  Loads : ℕ → ℕ → ℕ → Call  -- of a word: its version and flags
  Draws : ℕ → ℕ → Call  -- of a kind: the ticket
  Takes : ℕ → ℕ → List ℕ → Call  -- of a row: its version and what it held
  Puts : ℕ → List ℕ → ℕ → Call  -- to a row, this content: the version
  Frees : ℕ → ℕ → Call  -- of a row, at this version
  Sets : ℕ → ℕ → ℕ → Call  -- of a word, to these flags: the version
  Enters : Label → List Label → Call  -- with this label, after the actions with those
  Leaves : Call
  Meets : List ℕ → Call  -- with the writer of the words, who knows these versions: it has seen each word there

-- where an actor began on one of the shared tables: which table, which seat, how much it may use in all, and how many
-- changes stood before
pub record Start : Type 0 where
  pub table : TableId
  pub number : ℕ
  pub stake : ℕ
  pub base : ℕ

-- all that never changes for an actor: the opening flags of the words, its seats of the board, the words and the
-- tickets, and the versions of the words that it began with
pub record Opening : Type 0 where
  pub flags : List ℕ
  pub board : Start
  pub switches : Start
  pub tickets : Start
  pub words : List ℕ

-- whatever calls led to the one, those and these lead to the other
abbrev pub Goes : (Opening → List Call → Type 0) → (Opening → List Call → Type 0) → List Call → Type 0
Goes before after its = (start : Opening) → (calls : List Call) → before start calls → after start (its ++ calls)

-- whatever calls led to the one, those lead to the other with the beginning of an action of this number. The labels
-- of the actions before it come from those calls, so each list of calls has its own
abbrev pub Begins : (Opening → List Call → Type 0) → (Opening → List Call → Type 0) → Label → ℕ → Type 0
Begins before after label number = (start : Opening) → (calls : List Call) → before start calls
    → (labels : List Label) × ((number ≡ length labels + 1) × after start (Enters label labels ∷ calls))

-- how many rows, words and kinds of ticket there are
abbrev pub rows_count : ℕ
rows_count = 14242

abbrev pub words_count : ℕ
words_count = 160

-- a row that an actor may name: row 0 is taken by beginning an action alone
abbrev pub IsRow : ℕ → Type 0
IsRow row = (0 < row) × (row < 14242)

-- a cell or a digest row
abbrev pub IsCell : ℕ → Type 0
IsCell row = (129 ≤ row) × (row < 8450)

-- the long place of a ticket, which its content has in word 15 as one more
abbrev pub IsLongPlace : ℕ → List ℕ → Type 0
IsLongPlace row content = (10242 ≤ row) × (row < 14242) × (0 < slice_index content 15)
    × ((row - 10242) % 1000 ≡ (slice_index content 15 - 1) % 1000)

-- a ring place, or the long place of the content's ticket
abbrev pub IsRing : ℕ → List ℕ → Type 0
IsRing row content = ((8450 ≤ row) × (row < 10242)) ⊎ IsLongPlace row content

-- the row that an addition's answer names
abbrev pub row_in : Added → ℕ
row_in (Counted row version) = row
row_in (Held row first second) = row

-- Late comes of a long place alone, with a ticket greater than the content's own
abbrev pub IsLate : ℕ → List ℕ → RingPut → Type 0
IsLate row content (Late ticket version) = (10242 ≤ row) × (slice_index content 15 ≤ ticket)
IsLate row content (Done version) = Unit {0}
IsLate row content (Busy first second) = Unit {0}

-- a word as it is known to whoever may set words, and all words with one of them set
abbrev pub known_version : Option (List Word) → ℕ → ℕ
known_version None at = 0
known_version (Some words) at = (slice_index_or words at (record { version = 0; flags = 0 })).version

abbrev pub with_set : Option (List Word) → ℕ → ℕ → ℕ → Option (List Word)
with_set None at version flags = None
with_set (Some words) at version flags = Some (slice_set words at (record { version = version; flags = flags }))

-- the action that an actor is in behind these calls, or 0
abbrev pub action_in : List Call → ℕ
action_in [] = 0
action_in (Enters label labels ∷ calls) = length labels + 1
action_in (Leaves ∷ calls) = 0
action_in (Adds row amount answer ∷ calls) = action_in calls
action_in (Rings row content answer ∷ calls) = action_in calls
action_in (Reads row seen ∷ calls) = action_in calls
action_in (Loads at version flags ∷ calls) = action_in calls
action_in (Draws kind ticket ∷ calls) = action_in calls
action_in (Meets versions ∷ calls) = action_in calls
action_in (Takes row version found ∷ calls) = action_in calls
action_in (Puts row content version ∷ calls) = action_in calls
action_in (Frees row version ∷ calls) = action_in calls
action_in (Sets at flags version ∷ calls) = action_in calls

-- each action up to this has ended, as the actor knows
abbrev pub after_in : List Call → ℕ
after_in [] = 0
after_in (Enters label labels ∷ calls) = length labels
after_in (Leaves ∷ calls) = action_in calls
after_in (Adds row amount answer ∷ calls) = after_in calls
after_in (Rings row content answer ∷ calls) = after_in calls
after_in (Reads row seen ∷ calls) = after_in calls
after_in (Loads at version flags ∷ calls) = after_in calls
after_in (Draws kind ticket ∷ calls) = after_in calls
after_in (Meets versions ∷ calls) = after_in calls
after_in (Takes row version found ∷ calls) = after_in calls
after_in (Puts row content version ∷ calls) = after_in calls
after_in (Frees row version ∷ calls) = after_in calls
after_in (Sets at flags version ∷ calls) = after_in calls

-- the label of the action that the actor is in
abbrev pub label_in : List Call → Label
label_in [] = no_label
label_in (Enters label labels ∷ calls) = label
label_in (Leaves ∷ calls) = no_label
label_in (Adds row amount answer ∷ calls) = label_in calls
label_in (Rings row content answer ∷ calls) = label_in calls
label_in (Reads row seen ∷ calls) = label_in calls
label_in (Loads at version flags ∷ calls) = label_in calls
label_in (Draws kind ticket ∷ calls) = label_in calls
label_in (Meets versions ∷ calls) = label_in calls
label_in (Takes row version found ∷ calls) = label_in calls
label_in (Puts row content version ∷ calls) = label_in calls
label_in (Frees row version ∷ calls) = label_in calls
label_in (Sets at flags version ∷ calls) = label_in calls

-- the version at which the row was taken, where it was neither put nor freed since; row 0 inside an action, by the
-- number of those before it
abbrev pub hand_in : List Call → ℕ → Option ℕ
hand_in [] row = None
hand_in (Takes at version found ∷ calls) row = if at == row then Some version else hand_in calls row
hand_in (Puts at content version ∷ calls) row = if at == row then None else hand_in calls row
hand_in (Frees at version ∷ calls) row = if at == row then None else hand_in calls row
hand_in (Enters label labels ∷ calls) row = if 0 == row then Some (length labels) else hand_in calls row
hand_in (Leaves ∷ calls) row = if 0 == row then None else hand_in calls row
hand_in (Adds at amount answer ∷ calls) row = hand_in calls row
hand_in (Rings at content answer ∷ calls) row = hand_in calls row
hand_in (Reads at seen ∷ calls) row = hand_in calls row
hand_in (Loads at version flags ∷ calls) row = hand_in calls row
hand_in (Draws kind ticket ∷ calls) row = hand_in calls row
hand_in (Meets versions ∷ calls) row = hand_in calls row
hand_in (Sets at flags version ∷ calls) row = hand_in calls row
