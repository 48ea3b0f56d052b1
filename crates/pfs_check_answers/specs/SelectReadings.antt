-- What the entries of a SELECT tell of what it reads, and how they go with the read set of its table.
use Rattle.std.specs.Prelude.{ℕ, ◌≡◌, ◌⊎◌, List, [], ◌∷◌, ◌++◌, All, length, map}
use Rattle.pfs_event.specs.declared.entry.Entry.{Entry}
use Rattle.pfs_event.specs.declared.entry.Entry.TheVariants as says
use Rattle.pfs_model.specs.EntryPlaces.{Placed}
use Rattle.pfs_readsets.specs.ReadSets.{IsNext, IsReadSet, target_of}
use Rattle.pfs_readsets.specs.TablePlaces.{Scope}
use Rattle.pfs_readsets.specs.declared.target.Target.{Target}
use Rattle.pfs_rows.specs.declared.table.Reading.{Reading}
use Rattle.pfs_rows.specs.declared.table.Table.{Table}
use Rattle.pfs_runs.specs.SelectAnswers.{IsShown}
use Rattle.pfs_session.specs.Inquiries.{reading_entry}
use Rattle.pfs_check_contents.specs.KeptContents.{IsHad}
use Rattle.pfs_check_answers.specs.declared.walking.Walked.{Walked}
use Rattle.pfs_check_answers.specs.declared.walking.Walked.TheVariants.{Misread, Whole}

-- where it names a row's version, the row had it among these entries
abbrev pub NamesHad : List Placed → Entry → Type 0
NamesHad all (says.Seen row version) = IsHad all row version
NamesHad all _ = Unit {0}

-- an entry tells of no reading
abbrev pub TellsNone : Entry → Type 0
TellsNone entry = (reading : Reading) → reading_entry reading ≡ entry → ⊥

-- it tells this one of a row or a word
abbrev pub Tells : Target → Entry → Reading → Type 0
Tells target entry reading = (target_of reading ≡ target) × (reading_entry reading ≡ entry)

-- it tells none of it
abbrev pub IsOther : Target → Entry → Type 0
IsOther target entry = (reading : Reading) → target_of reading ≡ target → reading_entry reading ≡ entry → ⊥

-- behind these readings the next entry is one too many, or not the reading that is due, or missing
abbrev pub IsMissed : Scope → Table → List Reading → List Entry → Type 0
IsMissed scope table readings [] = (target : Target) × IsNext scope table readings target
IsMissed scope table readings (entry ∷ entries) =
    IsReadSet scope table readings ⊎ ((target : Target) × IsNext scope table readings target × IsOther target entry)

-- the entries before this place are the first readings of the table's read set, and here it goes on otherwise
pub record IsMisread (scope : Scope) (table : Table) (entries : List Entry) (at : ℕ) : Type 0 where
  pub readings : List Reading
  pub rest : List Entry
  pub are : entries ≡ map reading_entry readings ++ rest
  pub at_is : at ≡ length readings
  pub missed : IsMissed scope table readings rest

-- the entries are these readings, the table's read set
pub record AreRead (scope : Scope) (table : Table) (entries : List Entry) (readings : List Reading) : Type 0 where
  pub whole : IsReadSet scope table readings
  pub told : map reading_entry readings ≡ entries

abbrev pub AreWalked : Scope → Table → List Entry → Walked → Type 0
AreWalked scope table entries (Whole readings) = AreRead scope table entries readings.items
AreWalked scope table entries (Misread at) = IsMisread scope table entries at

-- and what they show is what stood there
abbrev pub AreShown : (ℕ → ℕ → List ℕ) → (ℕ → ℕ → ℕ) → Walked → Type 0
AreShown content flags (Whole readings) = All (IsShown content flags) readings.items
AreShown content flags (Misread at) = Unit {0}
