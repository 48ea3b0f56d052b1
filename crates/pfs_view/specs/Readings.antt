-- How a reader takes the line of a row apart.
use Rattle.std.specs.Prelude.{ℕ, zero, suc, ◌+◌, ◌==◌, max, if◌then◌else◌, List, [], ◌∷◌, length, reverse, slice_index, take, drop}
use Rattle.pfs_text.specs.declared.values.RowValue.{RowValue}
use Rattle.pfs_view.specs.Grids.{cell_text}
use Rattle.pfs_view.specs.declared.columns.Headings.{Headings}
use Rattle.pfs_view.specs.declared.columns.Times.{Times}

-- the room of a row's cell in its line: as wide as its column, or wider where it sticks out
abbrev pub room : Headings → Times → List ℕ → List RowValue → ℕ → ℕ
room headings times widths row place =
    max (slice_index widths place) (length (cell_text headings times row place))

-- where the cell at a place begins, in a line of cells that have so much room
abbrev pub cell_start : (ℕ → ℕ) → ℕ → ℕ
cell_start wide zero = 2
cell_start wide (suc n) = cell_start wide n + wide n + 3

-- what stands there
abbrev pub cell_in : (ℕ → ℕ) → List ℕ → ℕ → List ℕ
cell_in wide line place = take (wide place) (drop (cell_start wide place) line)

-- a text from its first byte on that is no space
abbrev pub without_spaces : List ℕ → List ℕ
without_spaces [] = []
without_spaces (byte ∷ rest) = if byte == 32 then without_spaces rest else byte ∷ rest

-- a text without the spaces at both of its ends
abbrev pub trimmed : List ℕ → List ℕ
trimmed text = reverse (without_spaces (reverse (without_spaces text)))
