-- The rules of what stands under `final`: the tables, and the counters of what was lost.
use Rattle.std.specs.Prelude.{ℕ, ◌≡◌, ◌+◌, ◌≤◌, ◌⊎◌, List, [], ◌∷◌, All, length, map}
use Rattle.std.specs.List.{flat_map}
use Rattle.pfs_admin.specs.declared.changes.Change.{Change}
use Rattle.pfs_board.specs.declared.view.Label.{Label}
use Rattle.pfs_classes.specs.declared.setting.Setting.{Setting}
use Rattle.pfs_finals.specs.Counters.{counters, lost_row}
use Rattle.pfs_finals.specs.Finals.{TableRead, final_order, table_report}
use Rattle.pfs_journal.specs.ReportLines.{block_lines, phase_lines, table_lines}
use Rattle.pfs_journal.specs.declared.report.PhaseParts.{PhaseParts}
use Rattle.pfs_journal.specs.declared.values.LostReport.{LostReport}
use Rattle.pfs_journal.specs.declared.values.TableReport.{TableReport}
use Rattle.pfs_model.specs.EntryPlaces.{Placed}
use Rattle.pfs_runs.specs.PhaseFinals.{IsRead, containers_behind, lost_behind}
use Rattle.pfs_check_faults.specs.ReportCases.{AlikeUpTo}

-- the tables are those of the order that have rows, each by its read set
pub record AreTables (setting : Setting) (content : ℕ → ℕ → List ℕ) (flags : ℕ → ℕ → ℕ) (so_far : List Placed)
    (tables : List TableReport) : Type 0 where
  pub reads : List TableRead
  pub order : map (λ (read : TableRead). read.table) reads ≡ final_order
  pub each : All (IsRead setting content flags so_far) reads
  pub are : tables ≡ flat_map (table_report setting) reads

-- the counters that aren't 0
abbrev pub lost_due : Setting → (Label → Change) → List Label → List Placed → List LostReport
lost_due setting change labels so_far =
    flat_map (lost_row setting.classes (lost_behind (containers_behind setting change labels so_far) so_far)) counters

-- The lines of the tables are up to a place those of tables that are as the phase's rows and words show.
pub record TablesUpTo (setting : Setting) (content : ℕ → ℕ → List ℕ) (flags : ℕ → ℕ → ℕ) (so_far : List Placed)
    (tables : List TableReport) (at : ℕ) : Type 0 where
  pub due : List TableReport
  pub right : AreTables setting content flags so_far due
  pub alike : AlikeUpTo (flat_map table_lines due) (flat_map table_lines tables) at

-- the number of the line behind `final`, in a phase whose `phase` line has this one
abbrev pub behind_final : ℕ → PhaseParts → ℕ
behind_final first report = first + 1 + length (flat_map block_lines report.blocks) + 1

-- They aren't, up to this line.
pub record TablesFail (setting : Setting) (content : ℕ → ℕ → List ℕ) (flags : ℕ → ℕ → ℕ) (so_far : List Placed)
    (report : PhaseParts) (first line : ℕ) : Type 0 where
  pub at : ℕ
  pub line_is : line ≡ behind_final first report + at
  pub within : at ≤ length (flat_map table_lines report.tables)
  pub wrong : TablesUpTo setting content flags so_far report.tables at → ⊥

-- The counters aren't those that are due, up to this line.
pub record LostFail (due : List LostReport) (report : PhaseParts) (first line : ℕ) : Type 0 where
  pub at : ℕ
  pub line_is : line ≡ behind_final first report + length (flat_map table_lines report.tables) + at
  pub within : at ≤ length report.lost
  pub wrong : AlikeUpTo due report.lost at → ⊥

-- so in one of these phases, where the `phase` line of the first has the number `first`
abbrev pub SomeEndFails : (PhaseParts → ℕ → ℕ → Type 0) → List PhaseParts → ℕ → ℕ → Type 0
SomeEndFails fails [] first line = ⊥
SomeEndFails fails (report ∷ reports) first line =
    fails report first line ⊎ SomeEndFails fails reports (first + length (phase_lines report)) line
