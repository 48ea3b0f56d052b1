-- What stands in a row of a table: a value for each of its columns.
use Rattle.std.specs.Prelude.{◌≡◌, Bool, true, false, List}
use Rattle.std.specs.List.{AllZip}
use Rattle.pfs_rows.specs.declared.table.Table.{Table}
use Rattle.pfs_catalogue.specs.Columns.{Named, columns_of}
use Rattle.pfs_catalogue.specs.declared.columns.ColumnKind.{ColumnKind}
use Rattle.pfs_catalogue.specs.declared.columns.ColumnKind.TheVariants as columns
use Rattle.pfs_text.specs.declared.values.RowValue.{RowValue}
use Rattle.pfs_text.specs.declared.values.RowValue.TheVariants.{Null, Number, Text}

-- a value that a column of this kind may show: a number or a text by the kind, and NULL in each
abbrev pub fits : RowValue → ColumnKind → Bool
fits Null kind = true
fits (Number number) columns.Number = true
fits (Number number) columns.Text = false
fits (Text text) columns.Number = false
fits (Text text) columns.Text = true

-- the row has a value for each column, in their order, that the column may show
abbrev pub IsRow : List Named → List RowValue → Type 0
IsRow columns row = AllZip (λ (column : Named) (value : RowValue). fits value column.kind ≡ true) columns row

-- and so of a table
abbrev pub IsRowOf : Table → List RowValue → Type 0
IsRowOf table row = IsRow (columns_of table) row
