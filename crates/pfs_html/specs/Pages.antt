-- A report as a page.
use Rattle.std.specs.Prelude.{ℕ, List, [], ◌∷◌, ◌++◌, codes, decimal}
use Rattle.std.specs.List.{flat_map}
use Rattle.pfs_journal.specs.declared.blocks.BlockReport.{BlockReport}
use Rattle.pfs_journal.specs.declared.report.PhaseParts.{PhaseParts}
use Rattle.pfs_journal.specs.declared.report.ReportParts.{ReportParts}
use Rattle.pfs_journal.specs.declared.values.LostReport.{LostReport}
use Rattle.pfs_journal.specs.declared.values.TableReport.{TableReport}
use Rattle.pfs_rows.specs.Tables.{table_name}
use Rattle.pfs_rows.specs.declared.table.Table.TheVariants.{Accounts}
use Rattle.pfs_text.specs.declared.values.RowValue.{RowValue}
use Rattle.pfs_view.specs.declared.columns.Headings.TheVariants.{Of}
use Rattle.pfs_html.specs.Journals.{journals_html}
use Rattle.pfs_html.specs.Rankings.{ranking_of, rows_named}
use Rattle.pfs_html.specs.Tables.{lost_html, table_html, tables_html}
use Rattle.pfs_html.specs.declared.pages.TheConstants.{HEAD, FOOT}
use Rattle.pfs_html.specs.declared.rankings.Ranking.TheVariants.{Waits, Statements, Digests}

-- who was connected, by account, where there is such a table
unfoldable pub some_accounts_html : List (List RowValue) → List ℕ
some_accounts_html rows = codes "<h3>Who was connected</h3>\n" ++ table_html (Of Accounts) rows

unfoldable pub accounts_html : List (List RowValue) → List ℕ
accounts_html [] = []
accounts_html (row ∷ rows) = some_accounts_html (row ∷ rows)

abbrev pub connected_html : List TableReport → List ℕ
connected_html tables = accounts_html (rows_named (table_name Accounts) tables)

unfoldable pub statements_html : List TableReport → List ℕ
statements_html tables = ranking_of Statements tables ++ ranking_of Digests tables

-- what a phase is looked at for first
unfoldable pub findings_html : List TableReport → List ℕ
findings_html tables = connected_html tables ++ ranking_of Waits tables ++ statements_html tables

-- all tables in the report's order, and the counters
unfoldable pub results_html : List TableReport → List LostReport → List ℕ
results_html tables lost = codes "<h3>All tables</h3>\n" ++ tables_html tables ++ lost_html lost

unfoldable pub phase_head_html : ℕ → List ℕ
phase_head_html number = codes "<section>\n<h2>Phase " ++ decimal number ++ codes "</h2>\n"

unfoldable pub blocks_html : List BlockReport → List ℕ
blocks_html blocks = codes "<h3>Journals</h3>\n" ++ journals_html blocks ++ codes "</section>\n"

unfoldable pub details_html : PhaseParts → List ℕ
details_html phase = results_html phase.tables phase.lost ++ blocks_html phase.blocks

unfoldable pub phase_html : PhaseParts → List ℕ
phase_html phase = phase_head_html phase.number ++ findings_html phase.tables ++ details_html phase

unfoldable pub phases_html : List PhaseParts → List ℕ
phases_html phases = flat_map phase_html phases

unfoldable pub body_html : List PhaseParts → List ℕ
body_html phases = phases_html phases ++ FOOT.now

unfoldable pub opening_html : List ℕ
opening_html = HEAD.now

unfoldable pub page_html : ReportParts → List ℕ
page_html report = opening_html ++ body_html report.phases
