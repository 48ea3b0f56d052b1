-- What a command is planned as, and why it may be refused.
use Rattle.std.specs.Prelude.{◌≡◌, ℕ, ◌==◌, ◌||◌, ◌⊎◌, Bool, true, false, not, if◌then◌else◌, List, [], ◌∷◌, Option, Some, None, Result, Ok, Err, map, unwrap_or, is_none, codes, length, position, slice_get}
use Rattle.std.specs.List.{find, list_any, range_with_len}
use Rattle.std.specs.Option.{option_and_then}
use Rattle.std.specs.Str.{bytes_eq}
use Rattle.pfs_text.specs.declared.conditions.Literal.TheVariants.{Number as NumberLiteral, Text as TextLiteral}
use Rattle.pfs_text.specs.declared.conditions.Test.{Test}
use Rattle.pfs_text.specs.declared.conditions.TestKind.{TestKind}
use Rattle.pfs_text.specs.declared.conditions.TestKind.TheVariants.{Compare, Like, IsNull, IsNotNull}
use Rattle.pfs_rows.specs.declared.table.Table.{Table}
use Rattle.pfs_rows.specs.declared.table.Table.TheVariants.{SetupActors, SetupObjects}
use Rattle.pfs_matching.specs.ObjectRules.{kind_name}
use Rattle.pfs_matching.specs.declared.actor_rows.ActorRow.{ActorRow}
use Rattle.pfs_matching.specs.declared.object_rows.ObjectRow.{ObjectRow}
use Rattle.pfs_matching.specs.declared.object_rows.ObjectKind.{ObjectKind}
use Rattle.pfs_matching.specs.declared.object_rows.ObjectKind.TheVariants.{Event, Function, Procedure, Table as ObjectTable, Trigger}
use Rattle.pfs_exec.specs.declared.changes.Insert.{Insert as InsertChange}
use Rattle.pfs_exec.specs.declared.changes.Update.{Update as UpdateChange}
use Rattle.pfs_exec.specs.declared.changes.NewRow.TheVariants.{Actor, Object}
use Rattle.pfs_exec.specs.declared.changes.Change.TheVariants.{Truncate as ChangeTruncate, Update as ChangeUpdate, Insert as ChangeInsert, Delete as ChangeDelete}
use Rattle.pfs_catalogue.specs.Columns.{column_place, columns_of, kind_at}
use Rattle.pfs_catalogue.specs.TableCommands.{flag_place, is_allowed}
use Rattle.pfs_catalogue.specs.LetterCases.{IsTableName}
use Rattle.pfs_catalogue.specs.declared.columns.ColumnKind.{ColumnKind}
use Rattle.pfs_catalogue.specs.declared.columns.ColumnKind.TheVariants.{Number as NumberColumn, Text as TextColumn}
use Rattle.pfs_catalogue.specs.declared.commands.CommandKind.{CommandKind}
use Rattle.pfs_catalogue.specs.declared.commands.CommandKind.TheVariants as kinds
use Rattle.pfs_catalogue.specs.declared.commands.Flag.{Flag}
use Rattle.pfs_catalogue.specs.declared.commands.Flag.TheVariants.{First, Second}
use Rattle.pfs_sql.specs.declared.command.Assignment.{Assignment}
use Rattle.pfs_sql.specs.declared.command.Command.{Command}
use Rattle.pfs_sql.specs.declared.command.Command.TheVariants.{Select, Update, Insert, Delete, Truncate}
use Rattle.pfs_sql.specs.declared.command.InsertCommand.{InsertCommand}
use Rattle.pfs_sql.specs.declared.command.UpdateCommand.{UpdateCommand}
use Rattle.pfs_sql.specs.declared.command.NamedOrder.{NamedOrder}
use Rattle.pfs_sql.specs.declared.command.NamedTest.{NamedTest}
use Rattle.pfs_sql.specs.declared.faults.SqlError.{SqlError}
use Rattle.pfs_sql.specs.declared.faults.SqlFault.{SqlFault}
use Rattle.pfs_sql.specs.declared.faults.SqlFault.TheVariants.{Error as Refused, NoMemory}
use Rattle.pfs_exec.specs.declared.query.Plan.{Plan}
use Rattle.pfs_exec.specs.declared.query.Plan.TheVariants.{Select as PlanSelect, Change as PlanChange}
use Rattle.pfs_exec.specs.declared.query.Order.{Order}
use Rattle.pfs_sql.specs.declared.faults.SqlError.TheVariants.{Parse, NoSuchTable, CommandDenied, UnknownColumn, WrongUsage}

-- the table as the command names it
abbrev pub table_text : Command → List ℕ
table_text (Select c) = c.table
table_text (Update c) = c.table
table_text (Insert c) = c.table
table_text (Delete c) = c.table
table_text (Truncate c) = c.table

abbrev pub kind_of : Command → CommandKind
kind_of (Select c) = kinds.Select
kind_of (Update c) = kinds.Update
kind_of (Insert c) = kinds.Insert
kind_of (Delete c) = kinds.Delete
kind_of (Truncate c) = kinds.Truncate

-- no table has the name
abbrev pub IsUnknownTable : Command → Type 0
IsUnknownTable command = (table : Table) → ¬ IsTableName table (table_text command)

-- the table doesn't allow the command
abbrev pub is_forbidden : Table → Command → Bool
is_forbidden table command = not (is_allowed table (kind_of command))

-- a name that no column of the table has
abbrev pub is_unknown : Table → List ℕ → Bool
is_unknown table name = is_none (column_place table name)

abbrev pub tests_unknown : Table → List NamedTest → Bool
tests_unknown table tests = list_any (λ test. is_unknown table test.column) tests

-- the command names a column that the table hasn't
abbrev pub has_unknown_column : Table → Command → Bool
has_unknown_column table (Select c) =
    list_any (is_unknown table) (unwrap_or c.columns [])
    || (tests_unknown table c.tests || list_any (λ order. is_unknown table order.column) c.order)
has_unknown_column table (Update c) =
    list_any (λ set. is_unknown table set.column) c.sets || tests_unknown table c.tests
has_unknown_column table (Insert c) = list_any (is_unknown table) (unwrap_or c.columns [])
has_unknown_column table (Delete c) = tests_unknown table c.tests
has_unknown_column table (Truncate c) = false

-- a number is compared with a text column, a text with a number column, or LIKE asks a number column
abbrev pub is_mistyped : Option ColumnKind → TestKind → Bool
is_mistyped (Some TextColumn) (Compare comparison (NumberLiteral literal)) = true
is_mistyped (Some NumberColumn) (Compare comparison (TextLiteral literal)) = true
is_mistyped (Some NumberColumn) (Like pattern) = true
is_mistyped kind test = false

abbrev pub tests_mistyped : Table → List NamedTest → Bool
tests_mistyped table tests =
    list_any (λ test. is_mistyped (option_and_then (kind_at table) (column_place table test.column)) test.kind) tests

abbrev pub has_wrong_type : Table → Command → Bool
has_wrong_type table (Select c) = tests_mistyped table c.tests
has_wrong_type table (Update c) = tests_mistyped table c.tests
has_wrong_type table (Insert c) = false
has_wrong_type table (Delete c) = tests_mistyped table c.tests
has_wrong_type table (Truncate c) = false

-- what a flag's text says
abbrev pub flag_value : List ℕ → Option Bool
flag_value text = if bytes_eq text (codes "YES") then Some true else if bytes_eq text (codes "NO") then Some false
    else None

abbrev pub same_place : Option ℕ → Option ℕ → Bool
same_place (Some a) (Some b) = a == b
same_place a b = false

-- the column of that name shows this flag
abbrev pub is_flag : Table → Flag → List ℕ → Bool
is_flag table flag name = same_place (flag_place table flag) (column_place table name)

-- a column that may not be changed, or a text that is no flag
abbrev pub is_wrong_set : Table → Assignment → Bool
is_wrong_set table set = not (is_flag table First set.column || is_flag table Second set.column)
    || is_none (flag_value set.value)

-- a column of this name stands at the place
abbrev pub stands_at : Table → ℕ → List ℕ → Bool
stands_at table place name = same_place (Some place) (column_place table name)

-- the value that an INSERT gives to the column at a place: of a list of columns the value in the position of that
-- column's name, and none where the list hasn't it; without a list the value in the column's own place
abbrev pub value_given : Table → Option (List (List ℕ)) → List (List ℕ) → ℕ → Option (List ℕ)
value_given table None values place = slice_get values place
value_given table (Some names) values place =
    option_and_then (slice_get values) (position (stands_at table place) names)

-- the same, or what a missing one is
abbrev pub value_or : Table → InsertCommand → ℕ → List ℕ → List ℕ
value_or table c place missing = unwrap_or (value_given table c.columns c.values place) missing

-- the kind of objects of that name
abbrev pub kind_named : List ℕ → Option ObjectKind
kind_named text = find (λ kind. bytes_eq (kind_name kind) text) (Event ∷ Function ∷ Procedure ∷ ObjectTable ∷ Trigger
    ∷ [])

-- a text that is no flag, or an OBJECT_TYPE that is no kind of objects
abbrev pub is_wrong_actor : InsertCommand → Bool
is_wrong_actor c = is_none (flag_value (value_or SetupActors c 3 (codes "YES")))
    || is_none (flag_value (value_or SetupActors c 4 (codes "YES")))

abbrev pub is_wrong_object : InsertCommand → Bool
is_wrong_object c = is_none (kind_named (value_or SetupObjects c 0 (codes "TABLE")))
    || (is_none (flag_value (value_or SetupObjects c 3 (codes "YES")))
    || is_none (flag_value (value_or SetupObjects c 4 (codes "YES"))))

abbrev pub is_wrong_insert : Table → InsertCommand → Bool
is_wrong_insert SetupObjects c = is_wrong_object c
is_wrong_insert table c = is_wrong_actor c

-- the command changes a column that may not be changed, or to what it may not be
abbrev pub is_wrong_change : Table → Command → Bool
is_wrong_change table (Select c) = false
is_wrong_change table (Update c) = list_any (is_wrong_set table) c.sets
is_wrong_change table (Insert c) = is_wrong_insert table c
is_wrong_change table (Delete c) = false
is_wrong_change table (Truncate c) = false

-- why the command is refused on the table: the first reason that holds
abbrev pub fault_of : Table → Command → Option SqlError
fault_of table command =
    if is_forbidden table command then Some CommandDenied else
    if has_unknown_column table command then Some UnknownColumn else
    if has_wrong_type table command then Some Parse else
    if is_wrong_change table command then Some WrongUsage else
    None

-- the place of a column that the table has
abbrev pub place_of : Table → List ℕ → ℕ
place_of table name = unwrap_or (column_place table name) 0

abbrev pub test_of : Table → NamedTest → Test
test_of table test = record { column = place_of table test.column; kind = test.kind }

abbrev pub order_of : Table → NamedOrder → Order
order_of table order = record { column = place_of table order.column; descending = order.descending }

-- all columns in their order, or those that are named
abbrev pub places_of : Table → Option (List (List ℕ)) → List ℕ
places_of table None = range_with_len 0 (length (columns_of table))
places_of table (Some names) = map (place_of table) names

-- what a SET makes of one of a row's flags
abbrev pub flag_set : Table → Flag → List Assignment → Option Bool
flag_set table flag [] = None
flag_set table flag (set ∷ sets) = if is_flag table flag set.column then flag_value set.value
    else flag_set table flag sets

abbrev pub actor_of : InsertCommand → ActorRow
actor_of c = record {
  host = value_or SetupActors c 0 (codes "%");
  user = value_or SetupActors c 1 (codes "%");
  role = value_or SetupActors c 2 (codes "%");
  enabled = unwrap_or (flag_value (value_or SetupActors c 3 (codes "YES"))) false;
  history = unwrap_or (flag_value (value_or SetupActors c 4 (codes "YES"))) false;
}

abbrev pub object_of : InsertCommand → ObjectRow
object_of c = record {
  kind = unwrap_or (kind_named (value_or SetupObjects c 0 (codes "TABLE"))) ObjectTable;
  schema = value_or SetupObjects c 1 (codes "%");
  name = value_or SetupObjects c 2 (codes "%");
  enabled = unwrap_or (flag_value (value_or SetupObjects c 3 (codes "YES"))) false;
  timed = unwrap_or (flag_value (value_or SetupObjects c 4 (codes "YES"))) false;
}

abbrev pub insert_of : Table → InsertCommand → InsertChange
insert_of SetupObjects c = record { table = SetupObjects; row = Object (object_of c) }
insert_of table c = record { table = SetupActors; row = Actor (actor_of c) }

abbrev pub update_of : Table → UpdateCommand → UpdateChange
update_of table c = record {
  table = table;
  change = record {
    first = flag_set table First c.sets;
    second = flag_set table Second c.sets;
  };
  tests = map (test_of table) c.tests;
}

-- the plan of a command that isn't refused
abbrev pub plan_of : Table → Command → Plan
plan_of table (Select c) = PlanSelect (record {
  table = table;
  columns = places_of table c.columns;
  tests = map (test_of table) c.tests;
  order = map (order_of table) c.order;
  limit = c.limit;
})
plan_of table (Update c) = PlanChange (ChangeUpdate (update_of table c))
plan_of table (Insert c) = PlanChange (ChangeInsert (insert_of table c))
plan_of table (Delete c) = PlanChange (ChangeDelete (record { table = table; tests = map (test_of table) c.tests }))
plan_of table (Truncate c) = PlanChange (ChangeTruncate table)

-- what is planned on a table: the first reason that holds, or else the plan
abbrev pub IsPlannedOn : Table → Command → Result Plan SqlFault → Type 0
IsPlannedOn table command (Ok plan) = (fault_of table command ≡ None) × (plan ≡ plan_of table command)
IsPlannedOn table command (Err (Refused error)) = fault_of table command ≡ Some error
IsPlannedOn table command (Err NoMemory) = Unit {0}

-- what is planned: an unknown table goes before all that is asked of the table
abbrev pub IsPlanned : Command → Result Plan SqlFault → Type 0
IsPlanned command result =
    (IsUnknownTable command × (result ≡ Err (Refused NoSuchTable)))
    ⊎ ((table : Table) × IsTableName table (table_text command) × IsPlannedOn table command result)
