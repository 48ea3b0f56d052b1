-- Two runs that show the same print the same rows of the global summaries and of the summary by digest.
use Rattle.std.specs.Prelude.{ℕ, ◌≡◌, List, [], ◌∷◌}
use Rattle.pfs_classes.specs.declared.setting.Setting.{Setting}
use Rattle.pfs_journal.specs.declared.report.PhaseParts.{PhaseParts}
use Rattle.pfs_journal.specs.declared.report.ReportParts.{ReportParts}
use Rattle.pfs_law_summaries.specs.OrderlyRuns.{run_of}
use Rattle.pfs_law_summaries.specs.ReportTables.{rows_named}
use Rattle.pfs_rows.specs.Tables.{table_name}
use Rattle.pfs_rows.specs.declared.table.SummaryTable.TheVariants.{Global}
use Rattle.pfs_rows.specs.declared.table.Table.TheVariants.{DigestSummary, Summary}
use Rattle.pfs_rows.specs.declared.table.TableKind.{TableKind}
use Rattle.pfs_runs.specs.Runs.{IsRun}
use Rattle.pfs_script.specs.Scripts.{IsScript}
use Rattle.pfs_script.specs.declared.blocks.Phase.{Phase}
use Rattle.pfs_law_agreed.specs.Agreement.{ShowTheSame}

-- under the ends of two phases
pub record HaveSameRows (one other : PhaseParts) : Type 0 where
  pub global : (kind : TableKind) → rows_named (table_name (Summary kind Global)) one.tables
      ≡ rows_named (table_name (Summary kind Global)) other.tables
  pub digests : rows_named (table_name DigestSummary) one.tables ≡ rows_named (table_name DigestSummary) other.tables

-- under those of this number
abbrev pub AreSameAt : ℕ → List PhaseParts → List PhaseParts → Type 0
AreSameAt number [] others = Unit {0}
AreSameAt number ones [] = Unit {0}
AreSameAt number (one ∷ ones) (other ∷ others) =
    (one.number ≡ number → other.number ≡ number → HaveSameRows one other) × AreSameAt number ones others

abbrev pub RowsLaw : Type 0
RowsLaw = (text : List ℕ) (setting : Setting) (phases : List Phase) (report other : ReportParts)
    → IsScript text setting phases → (run : IsRun setting phases report) (second : IsRun setting phases other)
    (number : ℕ) → ShowTheSame (run_of setting phases report run) (run_of setting phases other second) number
    → AreSameAt number report.phases other.phases
