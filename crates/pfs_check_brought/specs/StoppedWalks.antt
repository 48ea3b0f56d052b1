-- Where the entries first don't pay what is due, and the event of which it is due.
use Rattle.std.specs.Prelude.{ℕ, ◌≡◌, ◌⊎◌, Bool, true, false, cond, List, [], ◌∷◌, length, Option, Some, None}
use Rattle.pfs_event.specs.declared.entry.Entry.{Entry}
use Rattle.pfs_event.specs.declared.entry.Entry.TheVariants as says
use Rattle.pfs_model.specs.EntryPlaces.{Placed}
use Rattle.pfs_check_dues.specs.OwedPuts.{PaysAt, owed_by}
use Rattle.pfs_check_verdicts.specs.PrintedSets.{GivesFlags}
use Rattle.pfs_check_brought.specs.declared.bringing.Bringing.{Bringing}
use Rattle.pfs_check_brought.specs.declared.bringing.Stop.{Stop}
use Rattle.pfs_check_brought.specs.HistoryCounts.{AreHistories}
use Rattle.pfs_check_brought.specs.KeptDues.{owed_of}

-- an event starts or ends
abbrev pub is_event : Entry → Bool
is_event (says.Start event verdict consumers thread class table) = true
is_event (says.End event last consumers thread) = true
is_event _ = false

-- the place of the last event of these entries, the last first. Places are counted from 0
abbrev pub last_event : List Placed → ℕ
last_event [] = 0
last_event (place ∷ earlier) = cond (is_event place.entry) (length earlier) (last_event earlier)

-- each of these paid what was left
abbrev pub HavePaid : (ℕ → ℕ → ℕ) → List Placed → Type 0
HavePaid flags [] = Unit {0}
HavePaid flags (place ∷ earlier) = PaysAt flags earlier place × HavePaid flags earlier

-- An entry is the first that doesn't, and this is its place and that of its event.
pub record StopsHere (flags : ℕ → ℕ → ℕ) (earlier : List Placed) (place : Placed) (stop : Stop) : Type 0 where
  pub paid : HavePaid flags earlier
  pub unpaid : PaysAt flags earlier place → ⊥
  pub at : stop.at ≡ length earlier
  pub event : stop.event ≡ last_event earlier

abbrev pub SomeStops : (ℕ → ℕ → ℕ) → List Placed → Stop → Type 0
SomeStops flags [] stop = ⊥
SomeStops flags (place ∷ earlier) stop = StopsHere flags earlier place stop ⊎ SomeStops flags earlier stop

-- All so far paid, and what is kept is what is left and what was written.
pub record AllPaid (flags : ℕ → ℕ → ℕ) (earlier : List Placed) (visitor : Bringing) : Type 0 where
  pub paid : HavePaid flags earlier
  pub flags_are : GivesFlags flags visitor.flags
  pub histories : AreHistories earlier visitor.histories
  pub owed : owed_of visitor.owed ≡ owed_by flags earlier
  pub place : visitor.place ≡ length earlier
  pub event : visitor.event ≡ last_event earlier

abbrev pub IsWalkedTo : (ℕ → ℕ → ℕ) → List Placed → Bringing → Option Stop → Type 0
IsWalkedTo flags earlier visitor None = AllPaid flags earlier visitor
IsWalkedTo flags earlier visitor (Some stop) = SomeStops flags earlier stop
