-- Worked examples of the definitions, by computation.
use Rattle.std.proofs.Common.{◌≡◌, Some, None, true, false, length, codes, inl, inr, refl}
use Rattle.std.specs.Prelude.{slice_get}
use Rattle.pfs_rows.specs.declared.table.TableKind.TheVariants.{Waits, Stages, Statements, Transactions}
use Rattle.pfs_rows.specs.declared.table.EventTable.TheVariants.{Current, HistoryLong}
use Rattle.pfs_rows.specs.declared.table.SummaryTable.TheVariants.{ByAccount, Global}
use Rattle.pfs_rows.specs.declared.table.Table.TheVariants.{SetupActors, SetupObjects, Threads, Users, Events, Summary, DigestSummary}
use Rattle.pfs_catalogue.specs.declared.columns.ColumnKind.TheVariants.{Number, Text}
use Rattle.pfs_catalogue.specs.declared.commands.CommandKind.TheVariants.{Select, Update, Delete, Truncate}
use Rattle.pfs_catalogue.specs.declared.commands.Flag.TheVariants.{First, Second}
use Rattle.pfs_catalogue.specs.Columns.{IsColumn, column_place, columns_of, kind_at, number, text}
use Rattle.pfs_catalogue.specs.TableCommands.{flag_place, is_allowed}
use Rattle.pfs_catalogue.specs.LetterCases.{IsTableName, without_schema}
use Rattle.pfs_catalogue.proofs.TableLookups.{meant}

-- the tenth column of statements, and their last
lock_time : slice_get (columns_of (Events Statements HistoryLong)) 9 ≡ Some (number (codes "LOCK_TIME"))
lock_time = refl

digest : slice_get (columns_of (Events Statements Current)) 15 ≡ Some (text (codes "DIGEST"))
digest = refl

-- stages show nothing more than every event
stages : length (columns_of (Events Stages Current)) ≡ 9
stages = refl

-- three numbers of times for transactions
transactions : length (columns_of (Summary Transactions Global)) ≡ 16
transactions = refl

read_only : column_place (Summary Transactions ByAccount) (codes "max_timer_READ_only") ≡ Some 17
read_only = refl

-- a name in lower case is found, a part of one isn't
found : column_place Threads (codes "history") ≡ Some 4
found = refl

not_found : column_place Threads (codes "HIST") ≡ None
not_found = refl

-- waits have no numbers of statements
no_lock_time : column_place (Summary Waits Global) (codes "SUM_LOCK_TIME") ≡ None
no_lock_time = refl

thread_numbers : kind_at Threads 0 ≡ Some Number
thread_numbers = refl

user_texts : kind_at Users 0 ≡ Some Text
user_texts = refl

no_column : kind_at Users 3 ≡ None
no_column = refl

-- a schema is left out in any case
left_out : without_schema (codes "Performance_Schema.threads") ≡ codes "threads"
left_out = refl

named : IsTableName Threads (codes "PERFORMANCE_SCHEMA.Threads")
named = inr refl

other_schema : ¬ IsTableName Threads (codes "mysql.threads")
other_schema h = let e : false ≡ true = meant Threads (codes "mysql.threads") h in cc

-- only the two tables that rules stand in are deleted from
deletes : is_allowed SetupObjects Delete ≡ true
deletes = refl

no_delete : is_allowed Threads Delete ≡ false
no_delete = refl

no_truncate : is_allowed Threads Truncate ≡ false
no_truncate = refl

truncates : is_allowed DigestSummary Truncate ≡ true
truncates = refl

-- HISTORY of an actor is the second flag, its ROLE none
second_flag : flag_place SetupActors Second ≡ Some 4
second_flag = refl

no_flag : flag_place Users First ≡ None
no_flag = refl
