-- Which tables are instrumented.
use Rattle.std.specs.Prelude.{◌≡◌, ℕ, Bool, true, false, List, [], ◌∷◌, ◌&&◌, unwrap_or, codes}
use Rattle.std.specs.List.{flat_map}
use Rattle.std.specs.Option.{option_map}
use Rattle.std.specs.Str.{bytes_eq}
use Rattle.pfs_matching.specs.declared.object_rows.ObjectRow.{ObjectRow}
use Rattle.pfs_matching.specs.declared.object_rows.ObjectKind.{ObjectKind}
use Rattle.pfs_matching.specs.declared.object_rows.ObjectKind.TheVariants.{Event, Function, Procedure, Table, Trigger}
use Rattle.pfs_matching.specs.declared.faults.FlagChange.{FlagChange}
use Rattle.pfs_matching.specs.KeyedRows.{AreOrdered}
use Rattle.pfs_matching.specs.RowWays.{Decides, first_match, flags_or_off}

-- the OBJECT_TYPE of a row
abbrev pub kind_name : ObjectKind → List ℕ
kind_name Event = codes "EVENT"
kind_name Function = codes "FUNCTION"
kind_name Procedure = codes "PROCEDURE"
kind_name Table = codes "TABLE"
kind_name Trigger = codes "TRIGGER"

abbrev pub object_key : ObjectRow → List (List ℕ)
object_key row = kind_name row.kind ∷ row.schema ∷ row.name ∷ []

-- every object of the schema, with both flags alike
abbrev pub opening_row : ObjectKind → List ℕ → Bool → ObjectRow
opening_row kind schema on = record { kind = kind; schema = schema; name = codes "%"; enabled = on; timed = on }

-- the rows of the opening for a kind, in key order: every object is on but those of the server's own schemas
abbrev pub opening_of_kind : ObjectKind → List ObjectRow
opening_of_kind kind =
    opening_row kind (codes "%") true
    ∷ opening_row kind (codes "information_schema") false
    ∷ opening_row kind (codes "mysql") false
    ∷ opening_row kind (codes "performance_schema") false
    ∷ []

abbrev pub opening_objects : List ObjectRow
opening_objects = flat_map opening_of_kind (Event ∷ Function ∷ Procedure ∷ Table ∷ Trigger ∷ [])

-- a flag that the change names becomes the new one
abbrev pub changed_object : FlagChange → ObjectRow → ObjectRow
changed_object change row = record row {
  enabled = unwrap_or change.first row.enabled;
  timed = unwrap_or change.second row.timed;
}

abbrev pub is_table : ObjectKind → Bool
is_table Event = false
is_table Function = false
is_table Procedure = false
is_table Table = true
is_table Trigger = false

-- the row is for tables, with this schema and this name
abbrev pub table_has : List ℕ × List ℕ → ObjectRow → Bool
table_has way row = is_table row.kind && bytes_eq row.schema way.0 && bytes_eq row.name way.1

-- the schema and name that a row may have: those of the table; its schema and any name; any of both
abbrev pub table_ways : List ℕ → List ℕ → List (List ℕ × List ℕ)
table_ways schema name = (schema, name) ∷ (schema, codes "%") ∷ (codes "%", codes "%") ∷ []

-- ENABLED and TIMED of the row
abbrev pub object_says : ObjectRow → Bool × Bool
object_says row = (row.enabled, row.timed)

-- those of the row for the first of the ways that any row has, or off
abbrev pub table_flags : List ObjectRow → List ℕ → List ℕ → Bool × Bool
table_flags rows schema name =
    flags_or_off (option_map object_says (first_match table_has (table_ways schema name) rows))

-- no other row has the same way
abbrev pub IsAlone : ObjectRow → ObjectRow → Type 0
IsAlone row other = other ≡ row

-- what is decided of a table is what the one row says that fits best
abbrev pub ObjectsDecideBest : Type 0
ObjectsDecideBest = (rows : List ObjectRow) (schema name : List ℕ) → AreOrdered object_key rows
    → Decides table_has IsAlone object_says (table_ways schema name) rows (table_flags rows schema name)

-- different kinds have different names
abbrev pub KindNamesDiffer : Type 0
KindNamesDiffer = (a b : ObjectKind) → kind_name a ≡ kind_name b → a ≡ b

-- the place of a kind among all
abbrev pub kind_place : ObjectKind → ℕ
kind_place Event = 0
kind_place Function = 1
kind_place Procedure = 2
kind_place Table = 3
kind_place Trigger = 4
