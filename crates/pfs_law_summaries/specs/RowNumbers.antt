-- The numbers of a key's and a class's row, by the events that count there.
use Rattle.std.specs.Prelude.{ℕ, ◌≡◌, ◌<◌, ◌↔◌, ◌==◌, true, false, List, ◌++◌, length}
use Rattle.pfs_classes.specs.Registry.{class_at}
use Rattle.pfs_classes.specs.declared.setting.Setting.{Setting}
use Rattle.pfs_conservation.specs.KindSummaries.{Key}
use Rattle.pfs_journal.specs.declared.report.ReportParts.{ReportParts}
use Rattle.pfs_law_summaries.specs.OrderlyRuns.{run_of}
use Rattle.pfs_readsets.specs.TablePlaces.{is_class_of}
use Rattle.pfs_rows.specs.declared.table.TableKind.{TableKind}
use Rattle.pfs_rows.specs.declared.table.TableKind.TheVariants.{Waits, Stages, Statements, Transactions}
use Rattle.pfs_runs.specs.Runs.{IsRun}
use Rattle.pfs_script.specs.Scripts.{IsScript}
use Rattle.pfs_script.specs.declared.blocks.Phase.{Phase}
use Rattle.pfs_stat.specs.Stat.{merge_of}
use Rattle.pfs_stat.specs.declared.Stat.{Stat}
use Rattle.pfs_summaries.specs.RowValues.{count_of}
use Rattle.pfs_summaries.specs.declared.numbers.Numbers.{Numbers}
use Rattle.pfs_summaries.specs.declared.numbers.Numbers.TheVariants as numbers
use Rattle.pfs_law_conservation.specs.RunEvents.{Ended}
use Rattle.pfs_law_summaries.specs.PhaseSummaries.{past_to}
use Rattle.pfs_law_summaries.specs.Counts.{Past, counted_events, counted_at}
use Rattle.pfs_law_summaries.specs.Extremes.{timed_waits, AreExtremes}
use Rattle.pfs_law_summaries.specs.SummaryRows.{class_numbers}

-- the events that count for a key and a class: those of `transaction` in both its cells
abbrev pub class_events : Past → TableKind → Key → ℕ → List Ended
class_events past Waits key id = counted_events past Waits key id
class_events past Stages key id = counted_events past Stages key id
class_events past Statements key id = counted_events past Statements key id
class_events past Transactions key id =
    counted_events past Transactions key 62 ++ counted_events past Transactions key 63

-- the numbers of a row's events, those of transactions of both access modes in one
abbrev pub whole_of : Numbers → Stat
whole_of (numbers.Times stat) = stat
whole_of (numbers.Statements stat) = stat
whole_of (numbers.Transactions read_write read_only) = merge_of read_write read_only

abbrev pub row_numbers : Past → TableKind → Key → ℕ → Numbers
row_numbers past kind key id = class_numbers kind (counted_at past kind key) id

-- A row's count is the number of the events that count there, so that it has a row just where there are some; its least
-- and its greatest are those of their waits, also in each cell alone.
pub record AreNumbers (past : Past) (kind : TableKind) (key : Key) (id : ℕ) : Type 0 where
  pub count : count_of (row_numbers past kind key id) ≡ length (class_events past kind key id)
  pub shown : ((count_of (row_numbers past kind key id) == 0) ≡ false) ↔ (0 < length (class_events past kind key id))
  pub extremes : AreExtremes (timed_waits past.given (class_events past kind key id))
      (whole_of (row_numbers past kind key id))
  pub cells : (cell : ℕ) → AreExtremes (timed_waits past.given (counted_events past kind key cell))
      (counted_at past kind key cell)

-- of each key and class, under the end of each phase of a run of a script
abbrev pub NumbersLaw : Type 0
NumbersLaw = (text : List ℕ) (setting : Setting) (phases : List Phase) (report : ReportParts)
    → IsScript text setting phases → (run : IsRun setting phases report) → (phase : ℕ) (kind : TableKind)
    (key : Key) (id : ℕ) → is_class_of kind (class_at setting.classes id) ≡ true
    → AreNumbers (past_to (run_of setting phases report run) phase) kind key id
