-- The rows of a table in a report, by its name.
use Rattle.std.specs.Prelude.{ℕ, if◌then◌else◌, List, [], ◌∷◌}
use Rattle.std.specs.Str.{bytes_eq}
use Rattle.pfs_journal.specs.declared.values.TableReport.{TableReport}
use Rattle.pfs_text.specs.declared.values.RowValue.{RowValue}

-- those of the first table with the name; none where no table has it, since a table without rows is left out
abbrev pub rows_named : List ℕ → List TableReport → List (List RowValue)
rows_named name [] = []
rows_named name (table ∷ tables) = if bytes_eq table.name name then table.rows else rows_named name tables
