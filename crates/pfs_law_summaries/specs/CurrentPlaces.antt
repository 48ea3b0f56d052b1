-- What the current places of threads show under a phase's end: each the last put there, unless it was released since.
use Rattle.std.specs.Prelude.{ℕ, ◌≡◌, ◌+◌, ◌*◌, ◌<◌, ◌≤◌, nat_lt, nat_le, Bool, true, ◌&&◌, List, [], ◌∷◌, Some}
use Rattle.pfs_classes.specs.declared.setting.Setting.{Setting}
use Rattle.pfs_event.specs.declared.entry.Entry.{Entry}
use Rattle.pfs_event.specs.declared.entry.Entry.TheVariants as says
use Rattle.pfs_journal.specs.declared.report.PhaseParts.{PhaseParts}
use Rattle.pfs_journal.specs.declared.report.ReportParts.{ReportParts}
use Rattle.pfs_model.specs.Actions.{IsAmong}
use Rattle.pfs_model.specs.Chains.{change_at, each_of, release_of}
use Rattle.pfs_model.specs.EntryPlaces.{Placed}
use Rattle.pfs_model.specs.Rings.{is_kept, shown_at}
use Rattle.pfs_model.specs.declared.changes.Change.{Change}
use Rattle.pfs_law_summaries.specs.OrderlyRuns.{run_of}
use Rattle.pfs_runs.specs.Runs.{IsRun, AreFinal}
use Rattle.pfs_script.specs.declared.blocks.Phase.{Phase}
use Rattle.pfs_script.specs.Scripts.{IsScript}
use Rattle.pfs_law_conservation.specs.Premises.{AreKept, IsOrderly}
use Rattle.pfs_law_conservation.specs.RunTerms.{Run, entries_to}

-- the sixteen current places of a slot's ring
abbrev pub is_current_row : ℕ → ℕ → Bool
is_current_row slot row = nat_le (8450 + 56 * slot) row && nat_lt row (8450 + 56 * slot + 16)

-- the put at a place of a ring that an entry is
abbrev pub put_at : Entry → List Change
put_at (says.Ring row version) = change_at row version ∷ []
put_at entry = []

-- a put of the row is printed at this version and none above it, and no release of the row at it or above
pub record IsLastPut (entries : List Placed) (row version : ℕ) : Type 0 where
  pub put : IsAmong (change_at row version) (each_of put_at entries)
  pub last : (other : ℕ) → IsAmong (change_at row other) (each_of put_at entries) → other ≤ version
  pub kept : is_kept (each_of release_of entries) (change_at row version) ≡ true

-- a place shows a put just where it is the last one, not released
pub record ShowsCurrent (entries : List Placed) (row version : ℕ) : Type 0 where
  pub last : shown_at entries row ≡ Some version → IsLastPut entries row version
  pub shown : IsLastPut entries row version → shown_at entries row ≡ Some version

-- of each current place of each of the 32 slots
abbrev pub CurrentLaw : Type 0
CurrentLaw = (run : Run) (phase slot : ℕ) → AreKept run → IsOrderly run → slot < 32 → (row : ℕ)
    → is_current_row slot row ≡ true → (version : ℕ) → ShowsCurrent (entries_to run phase) row version

-- so it is under a phase's end
abbrev pub HasCurrents : Run → PhaseParts → Type 0
HasCurrents run phase = (slot row version : ℕ) → slot < 32 → is_current_row slot row ≡ true
    → ShowsCurrent (entries_to run phase.number) row version

-- of each phase of a run
abbrev pub AllHaveCurrents : (setting : Setting) (phases : List Phase) (report : ReportParts)
    → IsRun setting phases report → Type 0
AllHaveCurrents setting phases report run = AreFinal (HasCurrents (run_of setting phases report run)) report.phases

-- of any script
abbrev pub CurrentsLaw : Type 0
CurrentsLaw = (text : List ℕ) (setting : Setting) (phases : List Phase) (report : ReportParts)
    → IsScript text setting phases → (run : IsRun setting phases report)
    → AllHaveCurrents setting phases report run
