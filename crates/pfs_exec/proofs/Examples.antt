-- Worked examples of the definitions, by computation.
use Rattle.std.proofs.Common.{◌≡◌, ◌≢◌, Some, None, true, false, [], ◌∷◌, filter, codes, refl}
use Rattle.std.specs.declared.cmp.Ordering.TheVariants.{Less as Lower, Equal as Same, Greater as Higher}
use Rattle.pfs_text.specs.declared.conditions.Comparison.TheVariants.{Equal, Unequal, AtMost}
use Rattle.pfs_text.specs.declared.conditions.Literal.TheVariants.{Number as NumberLiteral, Text as TextLiteral}
use Rattle.pfs_text.specs.declared.conditions.TestKind.TheVariants.{Compare, Like, IsNotNull}
use Rattle.pfs_text.specs.declared.values.RowValue.TheVariants.{Null, Number, Text}
use Rattle.pfs_rows.specs.declared.table.Table.TheVariants.{SetupObjects, SetupConsumers, Threads, Accounts}
use Rattle.pfs_matching.specs.declared.object_rows.ObjectKind.TheVariants.{Table as ObjectTable}
use Rattle.pfs_catalogue.specs.declared.commands.Flag.TheVariants.{First, Second}
use Rattle.pfs_sql.specs.declared.command.Command.TheVariants.{Select, Update, Insert, Delete}
use Rattle.pfs_sql.specs.declared.faults.SqlError.TheVariants.{Parse, CommandDenied, UnknownColumn, WrongUsage}
use Rattle.pfs_exec.specs.Plans.{actor_of, fault_of, flag_set, object_of, places_of}
use Rattle.pfs_exec.specs.Selections.{column_cmp, limited, meets_all, meets_value, named_columns, row_cmp, value_at, value_cmp}

-- a comparison with NULL is false, and so is one with another type
null_compares : meets_value (Compare Unequal (NumberLiteral 1)) Null ≡ false
null_compares = refl

unlike_types : meets_value (Compare AtMost (TextLiteral (codes "9"))) (Number 1) ≡ false
unlike_types = refl

number_like : meets_value (Like (codes "%")) (Number 1) ≡ false
number_like = refl

text_like : meets_value (Like (codes "a%")) (Text (codes "abc")) ≡ true
text_like = refl

-- NULL goes first, and last where DESC turns the column
null_first : column_cmp (record { column = 0; descending = false }) (Null ∷ []) (Number 0 ∷ []) ≡ Lower
null_first = refl

null_last : column_cmp (record { column = 0; descending = true }) (Null ∷ []) (Number 0 ∷ []) ≡ Higher
null_last = refl

-- numbers order by value, texts by their bytes
by_value : value_cmp (Number 10) (Number 9) ≡ Higher
by_value = refl

by_bytes : value_cmp (Text (codes "10")) (Text (codes "9")) ≡ Lower
by_bytes = refl

case_counts : value_cmp (Text (codes "B")) (Text (codes "a")) ≡ Lower
case_counts = refl

-- the second column decides between rows that are equal in the first
second_column : row_cmp (record { column = 0; descending = false } ∷ record { column = 1; descending = true } ∷ []) (Number 1 ∷ Number 2 ∷ []) (Number 1 ∷ Number 3 ∷ []) ≡ Higher
second_column = refl

no_columns : row_cmp [] (Number 1 ∷ []) (Number 2 ∷ []) ≡ Same
no_columns = refl

-- of the rows that meet the condition, the first one
kept_first : limited (Some 1) (filter (meets_all (record { column = 0; kind = IsNotNull } ∷ [])) ((Null ∷ []) ∷ (Number 7 ∷ []) ∷ (Number 8 ∷ []) ∷ [])) ≡ (Number 7 ∷ []) ∷ []
kept_first = refl

-- columns in the order of their naming, also twice
named_twice : named_columns (1 ∷ 0 ∷ 1 ∷ []) (Number 5 ∷ Null ∷ []) ≡ Null ∷ Number 5 ∷ Null ∷ []
named_twice = refl

no_such_place : value_at (Number 5 ∷ []) 1 ≡ Null
no_such_place = refl

-- where several reasons hold, the first in their order: a command that the table doesn't allow, a column that it hasn't,
-- a literal of the other type, a change that may not be made
denied_first : fault_of Threads (Delete (record { table = codes "threads"; tests = record { column = codes "nope"; kind = Like (codes "x") } ∷ [] }))
    ≡ Some CommandDenied
denied_first = refl

unknown_before_type : fault_of Threads (Select (record { columns = Some (codes "nope" ∷ []); table = codes "threads"; tests = record { column = codes "THREAD_ID"; kind = Like (codes "1%") } ∷ []; order = []; limit = None }))
    ≡ Some UnknownColumn
unknown_before_type = refl

unknown_in_order : fault_of Accounts (Select (record { columns = None; table = codes "accounts"; tests = []; order = record { column = codes "nope"; descending = true } ∷ []; limit = None }))
    ≡ Some UnknownColumn
unknown_in_order = refl

type_before_change : fault_of Threads (Update (record { table = codes "threads"; sets = record { column = codes "THREAD_ID"; value = codes "maybe" } ∷ []; tests = record { column = codes "thread_id"; kind = Compare Equal (TextLiteral (codes "1")) } ∷ [] }))
    ≡ Some Parse
type_before_change = refl

number_for_text : fault_of Threads (Select (record { columns = None; table = codes "threads"; tests = record { column = codes "HISTORY"; kind = Compare Equal (NumberLiteral 1) } ∷ []; order = []; limit = None }))
    ≡ Some Parse
number_for_text = refl

-- THREAD_ID may not be changed, and a flag is YES or NO in capital letters
no_flag_column : fault_of Threads (Update (record { table = codes "threads"; sets = record { column = codes "THREAD_ID"; value = codes "YES" } ∷ []; tests = [] }))
    ≡ Some WrongUsage
no_flag_column = refl

no_flag : fault_of Threads (Update (record { table = codes "threads"; sets = record { column = codes "HISTORY"; value = codes "yes" } ∷ []; tests = [] }))
    ≡ Some WrongUsage
no_flag = refl

no_object_type : fault_of SetupObjects (Insert (record { table = codes "setup_objects"; columns = Some (codes "object_type" ∷ []); values = codes "table" ∷ [] }))
    ≡ Some WrongUsage
no_object_type = refl

consumers_off : fault_of SetupConsumers (Update (record { table = codes "setup_consumers"; sets = record { column = codes "enabled"; value = codes "NO" } ∷ []; tests = record { column = codes "NAME"; kind = Like (codes "%") } ∷ [] }))
    ≡ None
consumers_off = refl

-- columns by their places, in any case and also twice
all_columns : places_of Accounts None ≡ 0 ∷ 1 ∷ 2 ∷ 3 ∷ []
all_columns = refl

some_columns : places_of Accounts (Some (codes "host" ∷ codes "USER" ∷ codes "Host" ∷ [])) ≡ 1 ∷ 0 ∷ 1 ∷ []
some_columns = refl

-- SET of HISTORY leaves INSTRUMENTED as it is
history_off : flag_set Threads Second (record { column = codes "history"; value = codes "NO" } ∷ []) ≡ Some false
history_off = refl

instrumented_stays : flag_set Threads First (record { column = codes "history"; value = codes "NO" } ∷ []) ≡ None
instrumented_stays = refl

-- the columns that an INSERT doesn't name
new_actor : actor_of (record { table = codes "setup_actors"; columns = Some (codes "HISTORY" ∷ codes "user" ∷ []); values = codes "NO" ∷ codes "u" ∷ [] })
    ≡ record { host = codes "%"; user = codes "u"; role = codes "%"; enabled = true; history = false }
new_actor = refl

new_object : object_of (record { table = codes "setup_objects"; columns = Some (codes "OBJECT_NAME" ∷ []); values = codes "t" ∷ [] })
    ≡ record { kind = ObjectTable; schema = codes "%"; name = codes "t"; enabled = true; timed = true }
new_object = refl
