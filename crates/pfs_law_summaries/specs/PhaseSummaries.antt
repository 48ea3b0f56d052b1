-- That the summaries under a phase's end show what counts there.
use Rattle.std.specs.Prelude.{ℕ}
use Rattle.pfs_journal.specs.declared.report.PhaseParts.{PhaseParts}
use Rattle.pfs_rows.specs.Tables.{table_name}
use Rattle.pfs_rows.specs.declared.table.SummaryTable.{SummaryTable}
use Rattle.pfs_rows.specs.declared.table.Table.TheVariants.{Summary}
use Rattle.pfs_rows.specs.declared.table.TableKind.{TableKind}
use Rattle.pfs_law_conservation.specs.RunActions.{names_by}
use Rattle.pfs_law_conservation.specs.RunDigests.{clears_to}
use Rattle.pfs_law_conservation.specs.RunTerms.{Run, IsKeyOf, actions_to, entries_to, given_in}
use Rattle.pfs_law_summaries.specs.Counts.{Past, counted_at}
use Rattle.pfs_law_summaries.specs.ReportTables.{rows_named}
use Rattle.pfs_law_summaries.specs.SummaryRows.{AreSummed}

-- what a run told up to a phase's end
abbrev pub past_to : Run → ℕ → Past
past_to run phase = record {
  names = names_by run.change;
  actions = actions_to run phase;
  clears = clears_to run phase;
  entries = entries_to run phase;
  given = given_in run;
}

-- under a phase's end each of the twenty summaries has a row for each of its keys and each class of its kind by which
-- something counts, and no other row
abbrev pub AreCounted : Run → PhaseParts → Type 0
AreCounted run phase = (kind : TableKind) (which : SummaryTable)
    → AreSummed run.setting kind which (IsKeyOf run) (counted_at (past_to run phase.number) kind)
    (rows_named (table_name (Summary kind which)) phase.tables)
