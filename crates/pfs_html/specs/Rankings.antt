-- The rows of a table by time.
use Rattle.std.specs.Prelude.{ℕ, ◌≤◌, ◌-◌, List, [], ◌∷◌, ◌++◌, length, map, fold, slice_get, slice_index_or, codes, decimal}
use Rattle.std.specs.BTreeMap.{insert_entry}
use Rattle.std.specs.List.{AllByRecursion, find, flat_map}
use Rattle.std.specs.Option.{option_map_or}
use Rattle.std.specs.Ordering.{nat_cmp, ordering_then}
use Rattle.std.specs.Str.{bytes_eq}
use Rattle.std.specs.declared.cmp.Ordering.{Ordering}
use Rattle.pfs_journal.specs.declared.values.TableReport.{TableReport}
use Rattle.pfs_rows.specs.Tables.{table_name}
use Rattle.pfs_rows.specs.declared.table.Table.{Table}
use Rattle.pfs_rows.specs.declared.table.Table.TheVariants.{DigestSummary, Summary}
use Rattle.pfs_rows.specs.declared.table.TableKind.TheVariants as kind
use Rattle.pfs_rows.specs.declared.table.SummaryTable.TheVariants.{Global}
use Rattle.pfs_text.specs.declared.values.RowValue.{RowValue}
use Rattle.pfs_text.specs.declared.values.RowValue.TheVariants.{Number}
use Rattle.pfs_view.specs.Grids.{greatest}
use Rattle.pfs_view.specs.declared.columns.Headings.TheVariants.{Of}
use Rattle.pfs_html.specs.Cells.{cells_html, headings_html, places_below}
use Rattle.pfs_html.specs.declared.rankings.Ranking.{Ranking}
use Rattle.pfs_html.specs.declared.rankings.Ranking.TheVariants.{Waits, Statements, Digests}

-- the rows of the first table of this name, none where there is no such table
abbrev pub rows_named : List ℕ → List TableReport → List (List RowValue)
rows_named name tables = option_map_or (λ (table : TableReport). table.rows)
    (find (λ (table : TableReport). bytes_eq table.name name) tables) []

-- a number, or 0 where there is none
abbrev pub number_of : RowValue → ℕ
number_of (Number number) = number
number_of _ = 0

abbrev pub number_at : ℕ → List RowValue → ℕ
number_at column row = option_map_or number_of (slice_get row column) 0

abbrev pub time_at : ℕ → List (List RowValue) → ℕ → ℕ
time_at column rows place = number_at column (slice_index_or rows place [])

-- the greater time comes first, and of equal ones the first
abbrev pub rank_order : ℕ × ℕ → ℕ × ℕ → Ordering
rank_order a b = ordering_then (nat_cmp a.0 b.0) (nat_cmp a.1 b.1)

abbrev pub with_rank : ℕ → List (List RowValue) → List ((ℕ × ℕ) × ℕ) → ℕ → List ((ℕ × ℕ) × ℕ)
with_rank column rows ranked place =
    insert_entry rank_order ranked (18446744073709551615 - time_at column rows place, place) place

-- the places of the rows, those of greater times first
unfoldable pub by_time : ℕ → List (List RowValue) → List ℕ
by_time column rows =
    map (λ (entry : (ℕ × ℕ) × ℕ). entry.1) (fold (with_rank column rows) [] (places_below (length rows)))

-- each time is at least as great as all behind it
abbrev pub Falls : (ℕ → ℕ) → List ℕ → Type 0
Falls time [] = Unit {0}
Falls time (place ∷ places) = AllByRecursion (λ (behind : ℕ). time behind ≤ time place) places × Falls time places

-- what is ranked: the table, its columns that are shown, and that of its times
abbrev pub table_of : Ranking → Table
table_of Waits = Summary kind.Waits Global
table_of Statements = Summary kind.Statements Global
table_of Digests = DigestSummary

abbrev pub columns_of : Ranking → List ℕ
columns_of Digests = 2 ∷ 3 ∷ 4 ∷ 6 ∷ 7 ∷ []
columns_of _ = 0 ∷ 1 ∷ 2 ∷ 4 ∷ 5 ∷ []

abbrev pub time_column : Ranking → ℕ
time_column Digests = 4
time_column _ = 2

abbrev pub title_of : Ranking → List ℕ
title_of Waits = codes "Waits by time"
title_of Statements = codes "Statements by time"
title_of Digests = codes "Statement texts by time"

unfoldable pub full_html : ℕ → List ℕ
full_html most = codes "<td><meter max=\"" ++ decimal most ++ codes "\" value=\""

-- a bar that is full at the greatest time
unfoldable pub bar_html : ℕ → ℕ → List ℕ
bar_html most time = full_html most ++ decimal time ++ codes "\"></meter></td>"

unfoldable pub bar_and_cells_html : Ranking → ℕ → List RowValue → List ℕ
bar_and_cells_html ranking most row =
    bar_html most (number_at (time_column ranking) row)
    ++ cells_html (Of (table_of ranking)) (columns_of ranking) row

-- a row with its bar
unfoldable pub ranked_row_html : Ranking → ℕ → List RowValue → List ℕ
ranked_row_html ranking most row = codes "<tr>" ++ bar_and_cells_html ranking most row ++ codes "</tr>\n"

-- the row at a place
unfoldable pub ranked_html : Ranking → ℕ → List (List RowValue) → ℕ → List ℕ
ranked_html ranking most rows place = option_map_or (ranked_row_html ranking most) (slice_get rows place) []

unfoldable pub ranked_rows_html : Ranking → ℕ → List (List RowValue) → List ℕ
ranked_rows_html ranking most rows =
    flat_map (ranked_html ranking most rows) (by_time (time_column ranking) rows)

unfoldable pub title_html : Ranking → List ℕ
title_html ranking = codes "<h3>" ++ title_of ranking ++ codes "</h3>\n<div><table>\n<tr><th></th>"

unfoldable pub ranking_head_html : Ranking → List ℕ
ranking_head_html ranking =
    title_html ranking ++ headings_html (Of (table_of ranking)) (columns_of ranking) ++ codes "</tr>\n"

-- the rows by time with their bars, under the headings of some columns
unfoldable pub ranking_html : Ranking → List (List RowValue) → List ℕ
ranking_html ranking rows =
    ranking_head_html ranking
    ++ ranked_rows_html ranking (greatest (number_at (time_column ranking)) rows) rows
    ++ codes "</table></div>\n"

-- it is left out where there are none
unfoldable pub some_ranking : Ranking → List (List RowValue) → List ℕ
some_ranking ranking [] = []
some_ranking ranking (row ∷ rows) = ranking_html ranking (row ∷ rows)

unfoldable pub ranking_of : Ranking → List TableReport → List ℕ
ranking_of ranking tables = some_ranking ranking (rows_named (table_name (table_of ranking)) tables)
