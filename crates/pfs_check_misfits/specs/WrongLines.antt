-- What the line at which a report's cut stops means.
use Rattle.std.specs.Prelude.{ℕ, ◌≡◌, ◌<◌, ◌≤◌, List, length, take, Err}
use Rattle.pfs_classes.specs.declared.setting.Setting.{Setting}
use Rattle.pfs_journal.specs.ReportLines.{report_lines}
use Rattle.pfs_journal.specs.declared.report.ReportParts.{ReportParts}
use Rattle.pfs_model.specs.EntryPlaces.{Block}
use Rattle.pfs_runs.specs.Runs.{IsRun}
use Rattle.pfs_script.specs.declared.blocks.Phase.{Phase}
use Rattle.pfs_check_faults.specs.ShapeFaults.{IsCut, report_cut}

-- Lines are counted from 1. It is a line of the report, and no report of the script begins with the lines up to it: none
-- that is cut, so no run.
pub record IsWrongLine (phases : List Phase) (report : ReportParts) (line : ℕ) : Type 0 where
  pub some : 0 < line
  pub within : line ≤ length (report_lines report)
  pub no_cut : (other : ReportParts) (blocks : List (List Block))
      → take line (report_lines other) ≡ take line (report_lines report) → IsCut phases other blocks → ⊥
  pub no_run : (setting : Setting) (other : ReportParts)
      → take line (report_lines other) ≡ take line (report_lines report) → IsRun setting phases other → ⊥

abbrev pub WrongLines : Type 0
WrongLines = (phases : List Phase) (report : ReportParts) (line : ℕ) → report_cut phases report ≡ Err line
    → IsWrongLine phases report line
