-- Rows laid out in columns, each as wide as its widest cell of at most 64 characters, or its heading.
use Rattle.std.specs.Prelude.{ℕ, zero, suc, ◌-◌, ◌≡◌, ◌<◌, max, nat_le, Bool, true, false, ◌&&◌, if◌then◌else◌, List, [], ◌∷◌, ◌++◌, length, replicate, slice_get, slice_index, codes}
use Rattle.std.specs.List.{flat_map}
use Rattle.std.specs.Option.{option_map_or}
use Rattle.pfs_text.specs.declared.values.RowValue.{RowValue}
use Rattle.pfs_view.specs.Cells.{value_text, is_number}
use Rattle.pfs_view.specs.ColumnHeadings.{heading_count, heading_text, shows_time}
use Rattle.pfs_view.specs.declared.columns.Headings.{Headings}
use Rattle.pfs_view.specs.declared.columns.Times.{Times}
use Rattle.pfs_view.specs.declared.columns.Times.TheVariants.{Units, Picoseconds}

-- times have units
abbrev pub has_units : Times → Bool
has_units Units = true
has_units Picoseconds = false

-- the cell of a row in a column, which is empty behind the row's last value
abbrev pub cell_text : Headings → Times → List RowValue → ℕ → List ℕ
cell_text headings times row place =
    option_map_or (value_text (has_units times && shows_time headings place)) (slice_get row place) []

abbrev pub is_right : List RowValue → ℕ → Bool
is_right row place = option_map_or is_number (slice_get row place) false

-- the greatest of what these have
abbrev pub greatest : {A : Type 0} → (A → ℕ) → List A → ℕ
greatest f [] = 0
greatest f (x ∷ xs) = max (f x) (greatest f xs)

-- how many columns are shown: each with a heading of its own, and each that a row has a value in
abbrev pub column_total : Headings → List (List RowValue) → ℕ
column_total headings rows = max (heading_count headings) (greatest (λ (row : List RowValue). length row) rows)

-- a wider cell makes its column no wider: a digest has so many characters
abbrev pub most_width : ℕ
most_width = 64

abbrev pub aligned : ℕ → ℕ
aligned size = if nat_le size most_width then size else 0

-- how wide a row makes a column
abbrev pub row_width : Headings → Times → ℕ → List RowValue → ℕ
row_width headings times place row = aligned (length (cell_text headings times row place))

abbrev pub heading_width : Headings → ℕ → ℕ
heading_width headings place = length (heading_text headings place)

-- as wide as its widest cell of those, or its heading
abbrev pub width_at : Headings → Times → List (List RowValue) → ℕ → ℕ
width_at headings times rows place =
    max (heading_width headings place) (greatest (row_width headings times place) rows)

-- the first ones of a list that has one for each place
abbrev pub first_of : {A : Type 0} → (ℕ → A) → ℕ → List A
first_of f zero = []
first_of f (suc n) = first_of f n ++ f n ∷ []

abbrev pub widths_of : Headings → Times → List (List RowValue) → List ℕ
widths_of headings times rows = first_of (width_at headings times rows) (column_total headings rows)

-- columns that a row made wider
pub record Widened (headings : Headings) (times : Times) (row : List RowValue) (old new : List ℕ) : Type 0 where
  pub count : length new ≡ length old
  pub each : (place : ℕ) → place < length old
      → slice_index new place ≡ max (slice_index old place) (row_width headings times place row)

-- a cell filled up with spaces to its column's width; a wider one sticks out
abbrev pub padded : Bool → ℕ → List ℕ → List ℕ
padded right width text = if right then replicate (width - length text) 32 ++ text
    else text ++ replicate (width - length text) 32

-- the first cells of a line, each behind a bar
abbrev pub bars : (ℕ → List ℕ) → ℕ → List ℕ
bars cell zero = []
bars cell (suc n) = bars cell n ++ codes "| " ++ cell n ++ codes " "

-- a row's line ends behind its last value
unfoldable pub row_line : Headings → Times → List ℕ → List RowValue → List ℕ
row_line headings times widths row =
    bars (λ (place : ℕ). padded (is_right row place) (slice_index widths place) (cell_text headings times row place))
    (length row) ++ codes "|\n"

unfoldable pub heading_line : Headings → List ℕ → List ℕ
heading_line headings widths =
    bars (λ (place : ℕ). padded false (slice_index widths place) (heading_text headings place)) (length widths)
    ++ codes "|\n"

-- the first parts of a line between others
abbrev pub dashes : List ℕ → ℕ → List ℕ
dashes widths zero = []
dashes widths (suc n) = dashes widths n ++ codes "+-" ++ replicate (slice_index widths n) 45 ++ codes "-"

unfoldable pub border_line : List ℕ → List ℕ
border_line widths = dashes widths (length widths) ++ codes "+\n"

-- the rows, each on its line
unfoldable pub row_lines : Headings → Times → List ℕ → List (List RowValue) → List ℕ
row_lines headings times widths rows = flat_map (row_line headings times widths) rows

-- behind them the last border
unfoldable pub rows_and_border : Headings → Times → List ℕ → List (List RowValue) → List ℕ
rows_and_border headings times widths rows = row_lines headings times widths rows ++ border_line widths

unfoldable pub body_lines : Headings → Times → List ℕ → List (List RowValue) → List ℕ
body_lines headings times widths rows = border_line widths ++ rows_and_border headings times widths rows

unfoldable pub lines_below : Headings → Times → List ℕ → List (List RowValue) → List ℕ
lines_below headings times widths rows = heading_line headings widths ++ body_lines headings times widths rows

-- the lines of a grid with columns so wide: a border, the headings, a border, the rows, a border
unfoldable pub lines_of : Headings → Times → List ℕ → List (List RowValue) → List ℕ
lines_of headings times widths rows = border_line widths ++ lines_below headings times widths rows

-- each column is as wide as its widest cell of at most so many characters, or its heading
unfoldable pub grid_text : Headings → Times → List (List RowValue) → List ℕ
grid_text headings times rows = lines_of headings times (widths_of headings times rows) rows
