-- What stands in a cell of a grid.
use Rattle.std.specs.Prelude.{ℕ, ◌==◌, Bool, true, false, if◌then◌else◌, List, [], ◌∷◌, codes, decimal}
use Rattle.std.specs.List.{flat_map}
use Rattle.pfs_text.specs.declared.values.RowValue.{RowValue}
use Rattle.pfs_text.specs.declared.values.RowValue.TheVariants.{Null, Number, Text}
use Rattle.pfs_view.specs.TimeTexts.{time_text}

-- a tab as `\t`, a backslash as two, any other byte as it is
abbrev pub escaped_byte : ℕ → List ℕ
escaped_byte byte = if byte == 9 then 92 ∷ 116 ∷ [] else if byte == 92 then 92 ∷ 92 ∷ [] else byte ∷ []

-- a value; a number is a time with its unit, or as it is
abbrev pub value_text : Bool → RowValue → List ℕ
value_text timed Null = codes "NULL"
value_text timed (Number number) = if timed then time_text number else decimal number
value_text timed (Text text) = flat_map escaped_byte text

-- a number stands at the right of its column
abbrev pub is_number : RowValue → Bool
is_number (Number number) = true
is_number _ = false
