-- What all actors have in common, as a root that is alone is told it of the board, the setup words and the tickets.
use Rattle.std.specs.Prelude.{ℕ, ◌≡◌, ◌≢◌, ◌+◌, ◌*◌, ◌<◌, ◌≤◌, Bool, true, false, not, List, [], ◌∷◌, length, slice_index}
use Rattle.std.proofs.Common.{zero, suc}
use Rattle.pfs_board.specs.declared.answers.Opening.{Opening as FirstRow}
use Rattle.pfs_board.specs.declared.view.Change.{Change}
use Rattle.pfs_board.specs.declared.view.View.{View}
use Rattle.pfs_board.specs.WholeSeats.{History}
use Rattle.pfs_board.specs.OpeningWords.{opening_words as board_words, row_of}
use Rattle.pfs_board.specs.History.{lock_at, word_at, stood, labels_of}
use Rattle.pfs_board.specs.Knowledge.{held}
use Rattle.pfs_levels.specs.Calls.{Call, Adds, Rings, Reads, Loads, Draws, Takes, Puts, Frees, Sets, Enters, Leaves, Meets, Opening, action_in, after_in}
use Rattle.pfs_levels.specs.RowWords.{opening_content}
use Rattle.pfs_levels.specs.JointCalls.{total, opens_free, Setting, sets_of, Draw, Joint, all_calls}
use Rattle.pfs_levels.specs.CallOrder.{Mark, all_word_marks, above, top_word, AllCalls, Order}
use Rattle.pfs_board_store.specs.RootActors.{Worked, calls_of_all, AreGathered, ats_of, marks_in}
use Rattle.pfs_switches.specs.declared.view.Setting.{Setting as Written}
use Rattle.pfs_switches.specs.declared.view.View.{View as WordView}
use Rattle.pfs_switches.specs.SharedKnowledge.{IsTold}
use Rattle.pfs_switches.specs.Knowledge.{met}
use Rattle.pfs_switches.specs.OpeningWords.{opening_words}
use Rattle.pfs_tickets.specs.declared.view.View.{View as TicketView}
use Rattle.pfs_tickets.specs.WholeSeats.{IsComplete}

-- so many numbers from a place on
unfoldable pub listed : ℕ → ℕ → (ℕ → ℕ) → List ℕ
listed zero i f = []
listed (suc n) i f = f i ∷ listed n (i + 1) f

-- the sixteen words of a row at a version
abbrev pub content_of : List ℕ → List Change → ℕ → ℕ → List ℕ
content_of start log row k = listed 16 0 (λ i. stood start log row k i)

-- The opening words of a board are those of a run: it has all rows, each with the content that a run begins with, and
-- row 0, cells and digest rows are not free
pub record IsRunsBoard (start : List ℕ) : Type 0 where
  pub wide : 17 * 14242 ≤ length start
  pub contents : (row i : ℕ) → 0 < row → row < 14242 → i < 16
      → slice_index start (word_at row i) ≡ slice_index (opening_content row) i
  pub allocated : (row : ℕ) → opens_free row ≡ false → slice_index start (lock_at row) ≢ 0
  pub free : (row : ℕ) → row < 14242 → opens_free row ≡ true → slice_index start (lock_at row) ≡ 0

-- a row as a run begins with it
abbrev pub IsFirstRow : ℕ → FirstRow → Type 0
IsFirstRow row o = (o.allocated ≡ not (opens_free row)) × (o.content ≡ opening_content row)

-- a board that opens with these rows is a run's
abbrev pub OpenedLaw : Type 0
OpenedLaw = (rows : List FirstRow) → length rows ≡ 14242
    → ((row : ℕ) → row < 14242 → IsFirstRow row (row_of rows row)) → IsRunsBoard (board_words rows)

-- the writer's sets, newest first
unfoldable pub settings_in : List Written → List Setting
settings_in [] = []
settings_in (s ∷ ss) = record { word = s.word; version = s.version; flags = s.flags } ∷ settings_in ss

-- Each set of these actors' calls is one that the writer made, and it made no other. The words tell of no maker: this
-- is for the kept value to tell, which has the writer between two actions
abbrev pub AreWritten : List (List Call) → List Written → Type 0
AreWritten actors sets = (h : Setting → ℕ) → total h (sets_of (all_calls actors)) ≡ total h (settings_in sets)

-- a root that meets the writer itself is one actor more, of which that is the one call
abbrev pub MeetLaw : Type 0
MeetLaw = (actors : List Worked) (v : View) (w pen : WordView) (t : TicketView) → AreGathered actors v w t
    → (start : Opening) → start.switches.number ≡ w.number
    → AreGathered (record { start = start; calls = Meets pen.seen ∷ [] } ∷ actors) v (met w pen) t

-- A root that is alone and has taken in the seats of all actors, meets the writer, and has told all tickets, knows one
-- order of all changes, of all sets and of all tickets, and each call found and left what stood at its version
abbrev pub JointLaw : Type 0
JointLaw = (flags start words : List ℕ) (v : View) (w pen : WordView) (t : TicketView) (actors : List Worked)
    → AreGathered actors v w t → IsRunsBoard start → (h : History start words v)
    → IsTold (opening_words flags) (met w pen) pen → AreWritten (calls_of_all actors) pen.sets → IsComplete t
    → (draws : List Draw)
    × Joint flags (calls_of_all actors) (content_of start h.t.log) (ats_of h.t.log) (settings_in pen.sets) draws

-- the actor has met the writer since its newest action began, or has begun none
abbrev pub has_met : List Call → Bool
has_met [] = true
has_met (Meets versions ∷ calls) = true
has_met (Enters label labels ∷ calls) = false
has_met (Leaves ∷ calls) = has_met calls
has_met (Adds row amount answer ∷ calls) = has_met calls
has_met (Rings row content answer ∷ calls) = has_met calls
has_met (Reads row seen ∷ calls) = has_met calls
has_met (Loads at version flags ∷ calls) = has_met calls
has_met (Draws kind ticket ∷ calls) = has_met calls
has_met (Takes row version found ∷ calls) = has_met calls
has_met (Puts row content version ∷ calls) = has_met calls
has_met (Frees row version ∷ calls) = has_met calls
has_met (Sets at flags version ∷ calls) = has_met calls

-- A load or a set has a meet of its actor's newest action behind it. Where an actor meets the writer, it learns of no
-- version below what the actions set that it knew as ended; and as its action ends it has named none below what the
-- actions up to its own set. The words tell of no action: these two are for the kept value to tell, which has the
-- writer between two actions
abbrev pub KnowsSets : List Mark → List Call → Call → Type 0
KnowsSets marks calls (Loads at version flags) = (at < 160) × (has_met calls ≡ true)
KnowsSets marks calls (Sets at flags version) = (at < 160) × (has_met calls ≡ true)
KnowsSets marks calls (Meets versions) =
    (at : ℕ) → at < 160 → above marks at (slice_index versions at) (after_in calls) ≡ 0
KnowsSets marks calls Leaves =
    has_met calls ≡ true → (at : ℕ) → at < 160 → above marks at (top_word calls at) (action_in calls) ≡ 0
KnowsSets marks calls (Adds row amount answer) = Unit {0}
KnowsSets marks calls (Rings row content answer) = Unit {0}
KnowsSets marks calls (Reads row seen) = Unit {0}
KnowsSets marks calls (Draws kind ticket) = Unit {0}
KnowsSets marks calls (Takes row version found) = Unit {0}
KnowsSets marks calls (Puts row content version) = Unit {0}
KnowsSets marks calls (Frees row version) = Unit {0}
KnowsSets marks calls (Enters label labels) = Unit {0}

abbrev pub AllKnowSets : List Mark → List Call → Type 0
AllKnowSets marks [] = Unit {0}
AllKnowSets marks (call ∷ calls) = KnowsSets marks calls call × AllKnowSets marks calls

-- A root that is alone, holds no row, has taken in the seats of all actors and meets the writer, knows the order of
-- their calls: the numbers of the actions, floors, and the causes of what was held back
abbrev pub OrderLaw : Type 0
OrderLaw = (flags start words : List ℕ) (v : View) (w pen : WordView) (t : TicketView) (actors : List Worked)
    → AreGathered actors v w t → IsRunsBoard start → held v.rows ≡ 0 → (h : History start words v)
    → IsTold (opening_words flags) (met w pen) pen → AreWritten (calls_of_all actors) pen.sets
    → AllCalls (AllKnowSets (all_word_marks (calls_of_all actors))) (calls_of_all actors)
    → (sets : List Mark)
    × Order (calls_of_all actors) (marks_in h.t.log) sets (labels_of h.t.log)
