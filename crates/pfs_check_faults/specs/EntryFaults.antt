-- The rules that are facts of one entry and of those before it: the numbers of actions and of changes, what is seen,
-- verdicts, the numbers of events, and the causes of what was held.
use Rattle.std.specs.Prelude.{ℕ, ◌≡◌, ◌↔◌, ◌<◌, ◌≤◌, true, false, List, [], ◌++◌, length, Option, None}
use Rattle.pfs_event.specs.declared.entry.Entry.{Entry}
use Rattle.pfs_event.specs.declared.entry.Entry.TheVariants as says
use Rattle.pfs_model.specs.declared.changes.Change.{Change}
use Rattle.pfs_model.specs.ActionAsks.{Answer, IsAnswered, Rooms}
use Rattle.pfs_model.specs.Actions.{AreRising, numbers_by}
use Rattle.pfs_model.specs.Causes.{ShowsCause}
use Rattle.pfs_model.specs.Chains.{AreChained, Each, each_of, is_of, is_that, action_change, times, word_change}
use Rattle.pfs_model.specs.Contexts.{subject_of}
use Rattle.pfs_model.specs.EntryPlaces.{Placed, up_to_phase}
use Rattle.pfs_model.specs.EventNumbers.{IsNumbered}
use Rattle.pfs_model.specs.Floors.{IsThere, LoadsKeep, NamingsKeep, namings_of}
use Rattle.pfs_model.specs.Rings.{is_reading_line}
use Rattle.pfs_model.specs.SetupFlags.{IsJudged, loads_of, thread_word, word_named}
use Rattle.pfs_check_faults.specs.ReportCases.{AllHave}

-- a number that a change may have: from 1 to as many as there are of its row up to the end of its phase, and on no
-- earlier line
pub record IsLinked (given : Entry → List Change) (all earlier : List Placed) (place : Placed) (change : Change) : Type
    0 where
  pub above : 0 < change.version
  pub had : change.version ≤ times (is_of change.row) (each_of given (up_to_phase place.phase all))
  pub first : times (is_that change) (each_of given earlier) ≡ 0

abbrev pub LinksAt : (Entry → List Change) → List Placed → List Placed → Placed → Type 0
LinksAt given all earlier place = Each (IsLinked given all earlier place) (given place.entry)

-- the number of an action is above those that its session has on earlier lines
abbrev pub RisesAt : List Placed → Placed → Type 0
RisesAt earlier place =
    Each (λ number. Each (λ before. before.version < number.version) (numbers_by place.session earlier))
    (action_change place.entry)

-- the second rule
pub record ActsAt (all earlier : List Placed) (place : Placed) : Type 0 where
  pub numbered : LinksAt action_change all earlier place
  pub rises : RisesAt earlier place

-- the version of its thread's switch word that a start or an end names
abbrev pub thread_named : Entry → Option ℕ
thread_named (says.Start event verdict consumers thread class table) = thread
thread_named (says.End event last consumers thread) = thread
thread_named _ = None

-- There are 160 switch words: that of the printed slot is one of them, where a version of it is named.
abbrev pub IsSlotThere : Placed → Type 0
IsSlotThere place =
    Each (λ word. word.row < 160) (word_named thread_word place.context.slot (thread_named place.entry))

-- the fifth rule
pub record SeesAt (all earlier : List Placed) (place : Placed) : Type 0 where
  pub rows : NamingsKeep all earlier place (namings_of place.entry)
  pub words : LoadsKeep all earlier place (loads_of place ++ word_change place.entry)
  pub there : IsThere place.entry
  pub slot : IsSlotThere place

-- the sixth
abbrev pub JudgesAt : ℕ → (ℕ → ℕ → ℕ) → List Placed → Placed → Type 0
JudgesAt stack flags earlier place = IsJudged stack flags (subject_of place.line) place.context place.entry

-- the seventh
pub record NumbersAt (rooms : ℕ → Rooms) (answers : ℕ → Answer) (earlier : List Placed) (place : Placed) : Type 0 where
  pub numbered : IsNumbered place.context place.entry
  pub answered : IsAnswered rooms answers place place.entry

-- a cause, outside a SELECT that reads the store, and in one
abbrev pub EventCauseAt : List Placed → List Placed → Placed → Type 0
EventCauseAt all earlier place = is_reading_line place.line ≡ false → ShowsCause all earlier place place.entry

abbrev pub QueryCauseAt : List Placed → List Placed → Placed → Type 0
QueryCauseAt all earlier place = is_reading_line place.line ≡ true → ShowsCause all earlier place place.entry

-- Where an entry gives one number at most, each number stands once exactly where each entry's is one that it may have.
abbrev pub ChainLaw : Type 0
ChainLaw = (given : Entry → List Change) → ((entry : Entry) → length (given entry) ≤ 1) → (all : List Placed)
    → AreChained given all ↔ AllHave (LinksAt given all) [] all

-- and the numbers rise along each session where each entry's is above its session's before
abbrev pub RisingLaw : Type 0
RisingLaw = (all : List Placed) → ((session : ℕ) → AreRising (numbers_by session all)) ↔ AllHave RisesAt [] all
