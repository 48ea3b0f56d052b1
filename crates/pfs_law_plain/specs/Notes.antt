-- What the entries of a journal and the calls of a store both tell.
use Rattle.std.specs.Prelude.{ℕ, ◌+◌, List, [], ◌∷◌, ◌++◌, length, Option}
use Rattle.pfs_event.specs.declared.entry.Entry.{Entry}
use Rattle.pfs_event.specs.declared.entry.Entry.TheVariants as says
use Rattle.pfs_levels.specs.Calls.{Call, Adds, Rings, Reads, Loads, Draws, Takes, Puts, Frees, Sets, Enters, Leaves, Meets}
use Rattle.pfs_levels.specs.declared.answers.Added.TheVariants.{Counted, Held}
use Rattle.pfs_levels.specs.declared.answers.RingPut.TheVariants.{Done, Busy, Late}
use Rattle.pfs_model.specs.declared.changes.Change.{Change}
use Rattle.pfs_model.specs.declared.lines.Subject.{Subject}
use Rattle.pfs_model.specs.Contexts.{Context, noted, subject_of}
use Rattle.pfs_model.specs.EntryPlaces.{Placed}
use Rattle.pfs_model.specs.SetupFlags.{loads_at}
use Rattle.pfs_rows.specs.declared.table.Seen.{Seen}
use Rattle.pfs_rows.specs.declared.table.Seen.TheVariants as seen

-- a row was changed, released, read or refused, or an event came late at it; a switch word was set, or loaded; an
-- action of this number began
pub data Note : Type 0 where
  Wrote : ℕ → ℕ → Note  -- the row and its new version
  Freed : ℕ → ℕ → Note  -- the row and its version
  Found : ℕ → ℕ → Note  -- the row and the version at which it was read
  Vacant : ℕ → Note  -- the row, which was free
  Refused : ℕ → ℕ → ℕ → Note  -- the row, which was held or busy, and its two lock words
  Overdue : ℕ → ℕ → Note  -- the place of the long history, and the greater ticket that it held
  Switched : ℕ → ℕ → ℕ → Note  -- the word, its new version and its flags
  Saw : ℕ → ℕ → Note  -- the word and its version
  Acted : ℕ → Note

abbrev pub saw_all : List Change → List Note
saw_all [] = []
saw_all (change ∷ changes) = Saw change.row change.version ∷ saw_all changes

-- what an entry tells, behind those that tell this
abbrev pub notes_at : Option Subject → Context → Entry → List Note
notes_at subject context (says.Connect action thread account user host) = Acted action ∷ []
notes_at subject context (says.Act action) = Acted action ∷ []
notes_at subject context (says.Start event verdict consumers thread class table) =
    saw_all (loads_at subject context (says.Start event verdict consumers thread class table))
notes_at subject context (says.End event last consumers thread) =
    saw_all (loads_at subject context (says.End event last consumers thread))
notes_at subject context (says.Saw word version) = Saw word version ∷ []
notes_at subject context (says.Add row version) = Wrote row version ∷ []
notes_at subject context (says.Held row first second) = Refused row first second ∷ []
notes_at subject context (says.Ring row version) = Wrote row version ∷ []
notes_at subject context (says.Long row version ticket) = Wrote row version ∷ []
notes_at subject context (says.Busy row first second) = Refused row first second ∷ []
notes_at subject context (says.Late row ticket greater) = Overdue row greater ∷ []
notes_at subject context (says.Take row version) = Wrote row version ∷ []
notes_at subject context (says.Give row version from) = Wrote row version ∷ []
notes_at subject context (says.Tag row version) = Wrote row version ∷ []
notes_at subject context (says.Free row version) = Freed row version ∷ []
notes_at subject context (says.Set word version flags) = Switched word version flags ∷ []
notes_at subject context (says.Seen row version) = Found row version ∷ []
notes_at subject context (says.Vacant row) = Vacant row ∷ []
notes_at subject context _ = []

-- what the entries of a line tell
abbrev pub notes_in : Option Subject → Context → List Entry → List Note
notes_in subject context [] = []
notes_in subject context (entry ∷ entries) =
    notes_at subject context entry ++ notes_in subject (noted subject context entry) entries

-- what the entries of journals tell, in their order
abbrev pub notes_of : List Placed → List Note
notes_of [] = []
notes_of (place ∷ places) = notes_at (subject_of place.line) place.context place.entry ++ notes_of places

-- what a reading of a row tells
abbrev pub found_notes : ℕ → Seen → List Note
found_notes row (seen.Whole version content) = Found row version ∷ []
found_notes row (seen.Free word) = Vacant row ∷ []
found_notes row (seen.Busy first second) = Refused row first second ∷ []

-- what a call tells
abbrev pub told : Call → List Note
told (Adds row amount (Counted r version)) = Wrote r version ∷ []
told (Adds row amount (Held r first second)) = Refused r first second ∷ []
told (Rings row content (Done version)) = Wrote row version ∷ []
told (Rings row content (Busy first second)) = Refused row first second ∷ []
told (Rings row content (Late ticket version)) = Overdue row ticket ∷ []
told (Reads row found) = found_notes row found
told (Loads at version flags) = Saw at version ∷ []
told (Draws kind ticket) = []
told (Takes row version found) = []
told (Puts row content version) = Wrote row version ∷ []
told (Frees row version) = Freed row version ∷ []
told (Sets at flags version) = Switched at version flags ∷ []
told (Enters label labels) = Acted (length labels + 1) ∷ []
told Leaves = []
told (Meets versions) = []

-- what calls tell, in order; the calls stand newest first
unfoldable pub all_told : List Call → List Note
all_told [] = []
all_told (call ∷ calls) = all_told calls ++ told call
