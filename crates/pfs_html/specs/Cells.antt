-- The rows of a table in a page.
use Rattle.std.specs.Prelude.{ℕ, Bool, if◌then◌else◌, List, ◌++◌, length, codes}
use Rattle.std.specs.List.{flat_map}
use Rattle.pfs_text.specs.declared.values.RowValue.{RowValue}
use Rattle.pfs_view.specs.ColumnHeadings.{heading_text}
use Rattle.pfs_view.specs.Grids.{cell_text, first_of, is_right}
use Rattle.pfs_view.specs.declared.columns.Headings.{Headings}
use Rattle.pfs_view.specs.declared.columns.Times.TheVariants.{Units}
use Rattle.pfs_html.specs.Escapes.{escaped}

-- a cell of a number stands at the right of its column
abbrev pub cell_tag : Bool → List ℕ
cell_tag right = if right then codes "<td class=\"n\">" else codes "<td>"

-- what a row has in a column
unfoldable pub cell_html : Headings → List RowValue → ℕ → List ℕ
cell_html headings row place =
    cell_tag (is_right row place) ++ escaped (cell_text headings Units row place) ++ codes "</td>"

-- what it has in these columns
unfoldable pub cells_html : Headings → List ℕ → List RowValue → List ℕ
cells_html headings places row = flat_map (cell_html headings row) places

-- the numbers from 0 up to this one, which is left out
abbrev pub places_below : ℕ → List ℕ
places_below count = first_of (λ (place : ℕ). place) count

-- a row has a cell for each of its values, and no other
unfoldable pub row_cells_html : Headings → List RowValue → List ℕ
row_cells_html headings row = flat_map (cell_html headings row) (places_below (length row))

unfoldable pub row_html : Headings → List RowValue → List ℕ
row_html headings row = codes "<tr>" ++ row_cells_html headings row ++ codes "</tr>\n"

-- what stands above a column
unfoldable pub heading_html : Headings → ℕ → List ℕ
heading_html headings place = codes "<th>" ++ escaped (heading_text headings place) ++ codes "</th>"

unfoldable pub headings_html : Headings → List ℕ → List ℕ
headings_html headings places = flat_map (heading_html headings) places
