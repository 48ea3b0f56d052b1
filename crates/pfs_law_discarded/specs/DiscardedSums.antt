-- Each event that counts in a cell is shown by the global summary, or was discarded by a TRUNCATE of it.
use Rattle.std.specs.Prelude.{ℕ, ◌≡◌, ◌==◌, true, List, filter, fold, map}
use Rattle.pfs_classes.specs.declared.setting.Setting.{Setting}
use Rattle.pfs_conservation.specs.KindSummaries.{KeyAll}
use Rattle.pfs_journal.specs.declared.report.ReportParts.{ReportParts}
use Rattle.pfs_law_conservation.specs.KindRows.{cells_of}
use Rattle.pfs_law_conservation.specs.RunEvents.{Ended, all_ended, counts_in}
use Rattle.pfs_law_conservation.specs.RunTerms.{IsCleared, Run, entries_to, found_takes}
use Rattle.pfs_law_summaries.specs.Counts.{Past, counted_at}
use Rattle.pfs_law_summaries.specs.OrderlyRuns.{run_of}
use Rattle.pfs_law_summaries.specs.PhaseSummaries.{past_to}
use Rattle.pfs_model.specs.Chains.{Each}
use Rattle.pfs_model.specs.Contents.{amount_of}
use Rattle.pfs_model.specs.EntryPlaces.{Placed}
use Rattle.pfs_rows.specs.Rows.{row_number}
use Rattle.pfs_rows.specs.declared.place.Place.TheVariants.{GlobalCell}
use Rattle.pfs_rows.specs.declared.table.TableKind.{TableKind}
use Rattle.pfs_runs.specs.Runs.{IsRun}
use Rattle.pfs_script.specs.Scripts.{IsScript}
use Rattle.pfs_script.specs.declared.blocks.Phase.{Phase}
use Rattle.pfs_stat.specs.Stat.{merge_all, merge_of}
use Rattle.pfs_stat.specs.declared.Stat.{Stat}

-- the events of a cell up to a phase's end: those that were let through and have ended
abbrev pub events_of : Past → ℕ → List Ended
events_of past cell = filter (counts_in (λ c. c == cell)) (all_ended past.entries)

-- and what they add up to
abbrev pub sum_of : Past → ℕ → Stat
sum_of past cell = merge_all (map (λ one. amount_of past.given one.session one.event) (events_of past cell))

-- Under a phase's end, of a cell of a kind: what the global summary shows of it, put together with what the takes of
-- its global row found, is what all its events add up to; and the row was taken by TRUNCATEs of that summary alone
pub record IsAccounted (run : Run) (phase : ℕ) (kind : TableKind) (cell : ℕ) : Type 0 where
  pub sums : fold merge_of (counted_at (past_to run phase) kind KeyAll cell)
      (found_takes run phase (row_number (GlobalCell cell))) ≡ sum_of (past_to run phase) cell
  pub takes : Each (λ (place : Placed). IsCleared run kind phase (row_number (GlobalCell cell)) place place.entry)
      (entries_to run phase)

-- so in each run of any script. A class counts in one cell, `transaction` in two
abbrev pub DiscardedLaw : Type 0
DiscardedLaw = (text : List ℕ) (setting : Setting) (phases : List Phase) (report : ReportParts)
    → IsScript text setting phases → (run : IsRun setting phases report) → (phase : ℕ) (kind : TableKind) (cell : ℕ)
    → cells_of setting kind cell ≡ true → IsAccounted (run_of setting phases report run) phase kind cell
