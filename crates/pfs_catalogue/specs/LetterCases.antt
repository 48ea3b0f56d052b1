-- How names are read: in any letter case, and a table's with or without its schema.
use Rattle.std.specs.Prelude.{◌≡◌, ◌≢◌, ℕ, ◌⊎◌, Bool, if◌then◌else◌, List, [], ◌∷◌, ◌++◌, Option, map, codes, take, drop}
use Rattle.std.specs.Char.{to_ascii_lowercase}
use Rattle.std.specs.Str.{bytes_eq}
use Rattle.pfs_rows.specs.declared.table.Table.{Table}
use Rattle.pfs_rows.specs.Tables.{table_name}

-- two names that differ in letter case alone
abbrev pub SameName : List ℕ → List ℕ → Type 0
SameName a b = map to_ascii_lowercase a ≡ map to_ascii_lowercase b

abbrev pub is_same_name : List ℕ → List ℕ → Bool
is_same_name a b = bytes_eq (map to_ascii_lowercase a) (map to_ascii_lowercase b)

-- what may stand before a table's name
abbrev pub schema_front : List ℕ
schema_front = codes "performance_schema."

-- the name is the table's, with its schema or without
abbrev pub IsTableName : Table → List ℕ → Type 0
IsTableName table name = SameName (table_name table) name ⊎ SameName (schema_front ++ table_name table) name

-- the name without the schema that stands before it, if any
abbrev pub without_schema : List ℕ → List ℕ
without_schema name = if is_same_name (take 19 name) schema_front then drop 19 name else name
