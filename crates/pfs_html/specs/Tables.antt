-- Tables in a page.
use Rattle.std.specs.Prelude.{ℕ, List, [], ◌∷◌, ◌++◌, length, map, codes, decimal}
use Rattle.std.specs.List.{flat_map}
use Rattle.pfs_journal.specs.declared.values.LostReport.{LostReport}
use Rattle.pfs_journal.specs.declared.values.TableReport.{TableReport}
use Rattle.pfs_text.specs.declared.values.RowValue.{RowValue}
use Rattle.pfs_view.specs.Grids.{column_total}
use Rattle.pfs_view.specs.ShownReports.{counter_row, headings_of}
use Rattle.pfs_view.specs.declared.columns.Headings.{Headings}
use Rattle.pfs_view.specs.declared.columns.Headings.TheVariants.{Counters}
use Rattle.pfs_html.specs.Cells.{headings_html, places_below, row_html}
use Rattle.pfs_html.specs.Escapes.{escaped}

unfoldable pub head_html : Headings → List ℕ → List ℕ
head_html headings places = codes "<div><table>\n<tr>" ++ headings_html headings places ++ codes "</tr>\n"

unfoldable pub rows_html : Headings → List (List RowValue) → List ℕ
rows_html headings rows = flat_map (row_html headings) rows

-- rows in order, under the headings of these columns
unfoldable pub sheet_html : Headings → List ℕ → List (List RowValue) → List ℕ
sheet_html headings places rows =
    head_html headings places ++ rows_html headings rows ++ codes "</table></div>\n"

-- all columns: each with a heading of its own, and each that a row has a value in
abbrev pub all_places : Headings → List (List RowValue) → List ℕ
all_places headings rows = places_below (column_total headings rows)

-- rows in order, each value under the heading of its place
unfoldable pub table_html : Headings → List (List RowValue) → List ℕ
table_html headings rows = sheet_html headings (all_places headings rows) rows

unfoldable pub name_html : List ℕ → List ℕ
name_html name = codes "<details><summary>" ++ escaped name ++ codes " "

unfoldable pub count_html : ℕ → List ℕ
count_html count = codes "<i>" ++ decimal count ++ codes "</i></summary>\n"

-- a name and how many rows there are, to be unfolded
unfoldable pub fold_html : List ℕ → ℕ → List ℕ
fold_html name count = name_html name ++ count_html count

unfoldable pub folded_html : List ℕ → Headings → List (List RowValue) → List ℕ
folded_html name headings rows =
    fold_html name (length rows) ++ table_html headings rows ++ codes "</details>\n"

-- a table of a phase, folded under its name
unfoldable pub named_html : TableReport → List ℕ
named_html table = folded_html table.name (headings_of table.name) table.rows

unfoldable pub tables_html : List TableReport → List ℕ
tables_html tables = flat_map named_html tables

-- the counters of what was lost, where there are some
unfoldable pub lost_html : List LostReport → List ℕ
lost_html [] = []
lost_html (one ∷ lost) = folded_html (codes "lost") Counters (map counter_row (one ∷ lost))
