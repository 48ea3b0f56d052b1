-- What the places of the long history show under a phase's end: each the greatest ticket put there since its last
-- release.
use Rattle.std.specs.Prelude.{ℕ, ◌≡◌, ◌≤◌, nat_lt, nat_le, Bool, true, ◌&&◌, List, Some}
use Rattle.pfs_classes.specs.declared.setting.Setting.{Setting}
use Rattle.pfs_journal.specs.declared.report.PhaseParts.{PhaseParts}
use Rattle.pfs_journal.specs.declared.report.ReportParts.{ReportParts}
use Rattle.pfs_model.specs.Actions.{IsAmong}
use Rattle.pfs_model.specs.Chains.{change_at, each_of, release_of}
use Rattle.pfs_model.specs.EntryPlaces.{Placed}
use Rattle.pfs_model.specs.Rings.{Ticketed, is_kept, shown_at, ticketed_at}
use Rattle.pfs_law_summaries.specs.OrderlyRuns.{run_of}
use Rattle.pfs_runs.specs.Runs.{IsRun, AreFinal}
use Rattle.pfs_script.specs.declared.blocks.Phase.{Phase}
use Rattle.pfs_script.specs.Scripts.{IsScript}
use Rattle.pfs_law_conservation.specs.Premises.{AreKept, IsOrderly}
use Rattle.pfs_law_conservation.specs.RunTerms.{Run, entries_to}

-- the thousand places of each kind
abbrev pub is_long_row : ℕ → Bool
is_long_row row = nat_le 10242 row && nat_lt row 14242

abbrev pub ticketed : ℕ → ℕ → ℕ → Ticketed
ticketed row version ticket = record { row = row; version = version; ticket = ticket }

-- the ticket is put at the row at this version, and no release of the row is printed at it or above
pub record IsPutSince (entries : List Placed) (row version ticket : ℕ) : Type 0 where
  pub put : IsAmong (ticketed row version ticket) (each_of ticketed_at entries)
  pub kept : is_kept (each_of release_of entries) (change_at row version) ≡ true

-- it is the greatest of those
pub record IsGreatestPut (entries : List Placed) (row version ticket : ℕ) : Type 0 where
  pub put : IsPutSince entries row version ticket
  pub greatest : (at other : ℕ) → IsPutSince entries row at other → other ≤ ticket

-- a place shows a put just where its ticket is the greatest put there since the last release
pub record ShowsLong (entries : List Placed) (row version : ℕ) : Type 0 where
  pub greatest : shown_at entries row ≡ Some version → (ticket : ℕ) × IsGreatestPut entries row version ticket
  pub shown : (ticket : ℕ) → IsGreatestPut entries row version ticket → shown_at entries row ≡ Some version

-- of each place
abbrev pub LongLaw : Type 0
LongLaw = (run : Run) (phase : ℕ) → AreKept run → IsOrderly run → (row : ℕ) → is_long_row row ≡ true → (version : ℕ)
    → ShowsLong (entries_to run phase) row version

-- so it is under a phase's end
abbrev pub HasLongs : Run → PhaseParts → Type 0
HasLongs run phase = (row version : ℕ) → is_long_row row ≡ true → ShowsLong (entries_to run phase.number) row version

-- of each phase of a run
abbrev pub AllHaveLongs : (setting : Setting) (phases : List Phase) (report : ReportParts)
    → IsRun setting phases report → Type 0
AllHaveLongs setting phases report run = AreFinal (HasLongs (run_of setting phases report run)) report.phases

-- of any script
abbrev pub LongsLaw : Type 0
LongsLaw = (text : List ℕ) (setting : Setting) (phases : List Phase) (report : ReportParts)
    → IsScript text setting phases → (run : IsRun setting phases report)
    → AllHaveLongs setting phases report run
