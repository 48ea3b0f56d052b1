-- What a load shows, worked.
use Rattle.std.specs.Prelude.{ℕ, ◌≡◌, List, [], ◌∷◌, ◌++◌, codes}
use Rattle.pfs_classes.specs.declared.classes.ClassRef.{ClassRef}
use Rattle.pfs_classes.specs.declared.setting.Setting.{Setting}
use Rattle.pfs_journal.specs.declared.report.PhaseParts.{PhaseParts}
use Rattle.pfs_journal.specs.declared.report.ReportParts.{ReportParts}
use Rattle.pfs_journal.specs.declared.values.TableReport.{TableReport}
use Rattle.pfs_law_agreed.specs.AgreedExamples.{both_connect, both_wait, one_quits}
use Rattle.pfs_law_agreed.specs.FirstPhases.{HasRoom}
use Rattle.pfs_rows.specs.Tables.{table_name}
use Rattle.pfs_rows.specs.declared.table.SummaryTable.TheVariants.{ByThread, Global}
use Rattle.pfs_rows.specs.declared.table.Table.{Table}
use Rattle.pfs_rows.specs.declared.table.Table.TheVariants.{DigestSummary, Summary, Threads}
use Rattle.pfs_rows.specs.declared.table.TableKind.TheVariants.{Waits}
use Rattle.pfs_text.specs.declared.values.RowValue.TheVariants.{Number}
use Rattle.pfs_law_load.specs.LoadPhases.{HasLoadPhases}
use Rattle.pfs_law_load.specs.LoadText.{load_text}

-- a table of one row, which has one number
abbrev pub table_of : Table → ℕ → TableReport
table_of table number = record { name = table_name table; rows = (Number number ∷ []) ∷ [] }

abbrev pub phase_of : ℕ → List TableReport → PhaseParts
phase_of number tables = record { number = number; blocks = []; tables = tables; lost = [] }

abbrev pub report_of : List TableReport → List TableReport → ReportParts
report_of first second = record { format = 1; phases = phase_of 1 first ∷ phase_of 2 second ∷ [] }

-- these numbers in the first phase; behind the second those by threads, over all sessions and by digest
abbrev pub report_with : ℕ → ℕ → ℕ → ReportParts
report_with first threads waits =
    report_of (table_of (Summary Waits Global) first ∷ [])
    (table_of Threads threads ∷ table_of (Summary Waits ByThread) threads ∷ table_of (Summary Waits Global) waits
    ∷ table_of DigestSummary 3 ∷ [])

pub record WorkedTexts : Type 0 where
  pub shown : load_text (report_with 1 2 4)
      ≡ codes "table events_waits_summary_global_by_event_name\nrow 4\ntable events_statements_summary_by_digest\n"
      ++ codes "row 3\ndone\n"
  -- the first phase and the other tables don't matter, and the summaries do
  pub same : load_text (report_with 1 2 4) ≡ load_text (report_with 5 6 4)
  pub other : load_text (report_with 1 2 4) ≡ load_text (report_with 1 2 5) → ⊥
  pub none : load_text (report_of (table_of (Summary Waits Global) 1 ∷ []) []) ≡ codes "done\n"

pub record WorkedScripts (setting : Setting) (class : ClassRef) : Type 0 where
  pub waits : HasLoadPhases setting (both_connect ∷ both_wait class ∷ [])
  -- not one in whose second phase a session quits, none of one phase, and none that begins with waits
  pub quits : HasLoadPhases setting (both_connect ∷ one_quits ∷ []) → ⊥
  pub alone : HasLoadPhases setting (both_connect ∷ []) → ⊥
  pub turned : HasLoadPhases setting (both_wait class ∷ both_connect ∷ []) → ⊥

pub record WorkedLoad : Type 0 where
  pub texts : WorkedTexts
  pub scripts : (setting : Setting) (class : ClassRef) → HasRoom setting 2 → WorkedScripts setting class
