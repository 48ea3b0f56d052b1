-- What it means that the puts due at starts and ends were asked.
use Rattle.std.specs.Prelude.{ℕ, ◌≡◌, ◌+◌, ◌<◌, ◌⊎◌, List, [], length}
use Rattle.pfs_journal.specs.declared.report.ReportParts.{ReportParts}
use Rattle.pfs_model.specs.EntryPlaces.{Placed}
use Rattle.pfs_check_faults.specs.ReportCases.{AllHave, StandsOn}
use Rattle.pfs_check_faults.specs.RingFaults.{BringsFail, UnbroughtAt}
use Rattle.pfs_model.specs.Puts.{AreBrought}
use Rattle.pfs_check_walk.specs.Walks.{LacksFirst, onto}
use Rattle.pfs_check_dues.specs.OwedPuts.{IsSettled, PaysAt, owed_by}

-- the first line on which what belongs to an event isn't what is due
pub record IsFirstUnbrought (report : ReportParts) (flags : ℕ → ℕ → ℕ) (all : List Placed) (line : ℕ) : Type 0 where
  pub fails : BringsFail report flags all line
  pub first : (other : ℕ) → other < line → BringsFail report flags all other → ⊥

-- the place of an event, and how many of its dues are paid, where the next entry stands at this place
pub record IsOwing (flags : ℕ → ℕ → ℕ) (all : List Placed) (at : ℕ) : Type 0 where
  pub event : ℕ
  pub paid : ℕ
  pub place_is : event + 1 + paid ≡ at
  pub wrong : UnbroughtAt flags [] all event paid

-- Where each entry pays and nothing is left behind all, each event is brought just where it is due.
abbrev pub BroughtLaw : Type 0
BroughtLaw = (flags : ℕ → ℕ → ℕ) (all : List Placed) → AllHave (PaysAt flags) [] all
    → IsSettled (owed_by flags (onto [] all)) → AreBrought flags all

-- Where an entry is the first that doesn't pay, or all do and something is left, an event isn't.
abbrev pub OwingLaw : Type 0
OwingLaw = (flags : ℕ → ℕ → ℕ) (all : List Placed) (at : ℕ)
    → LacksFirst (PaysAt flags) [] all at
    ⊎ (AllHave (PaysAt flags) [] all × (IsSettled (owed_by flags (onto [] all)) → ⊥) × (at ≡ length all))
    → IsOwing flags all at

-- The line behind what is paid of it is the first on which something isn't brought.
abbrev pub FirstLaw : Type 0
FirstLaw = (report : ReportParts) (flags : ℕ → ℕ → ℕ) (all : List Placed) (at : ℕ)
    → LacksFirst (PaysAt flags) [] all at
    ⊎ (AllHave (PaysAt flags) [] all × (IsSettled (owed_by flags (onto [] all)) → ⊥) × (at ≡ length all))
    → (owing : IsOwing flags all at) (begins : ℕ) → StandsOn report owing.event begins
    → IsFirstUnbrought report flags all (begins + 1 + owing.paid)
