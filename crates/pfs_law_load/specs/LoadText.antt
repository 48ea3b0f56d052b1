-- What `load` writes of the report of its script.
use Rattle.std.specs.Prelude.{ℕ, ◌-◌, Bool, List, [], ◌∷◌, ◌++◌, Option, Some, None, codes, filter, length, slice_get}
use Rattle.std.specs.List.{flat_map, list_any}
use Rattle.std.specs.Str.{bytes_eq}
use Rattle.pfs_journal.specs.declared.report.PhaseParts.{PhaseParts}
use Rattle.pfs_journal.specs.declared.report.ReportParts.{ReportParts}
use Rattle.pfs_journal.specs.declared.values.TableReport.{TableReport}
use Rattle.pfs_journal.specs.Spelling.{table_text}
use Rattle.pfs_rows.specs.declared.table.SummaryTable.TheVariants.{Global}
use Rattle.pfs_rows.specs.declared.table.Table.{Table}
use Rattle.pfs_rows.specs.declared.table.Table.TheVariants.{Summary, DigestSummary}
use Rattle.pfs_rows.specs.declared.table.TableKind.TheVariants.{Waits, Stages, Statements, Transactions}
use Rattle.pfs_rows.specs.Tables.{table_name}

-- the summaries by event name over all sessions, of the four kinds, and that by digest; their order here says nothing
abbrev pub summaries : List Table
summaries =
    Summary Waits Global ∷ Summary Stages Global ∷ Summary Statements Global ∷ Summary Transactions Global
    ∷ DigestSummary ∷ []

unfoldable pub is_named : TableReport → Table → Bool
is_named table named = bytes_eq table.name (table_name named)

-- it is one of theirs
abbrev pub is_summary : TableReport → Bool
is_summary table = list_any (is_named table) summaries

abbrev pub tables_of : Option PhaseParts → List TableReport
tables_of None = []
tables_of (Some phase) = phase.tables

-- the tables under the end of the last phase
abbrev pub last_tables : List PhaseParts → List TableReport
last_tables phases = tables_of (slice_get phases (length phases - 1))

unfoldable pub done_line : List ℕ
done_line = codes "done\n"

-- of these tables the summaries with their rows, in the report's order, and a last line
unfoldable pub load_text : ReportParts → List ℕ
load_text report = flat_map table_text (filter is_summary (last_tables report.phases)) ++ done_line
