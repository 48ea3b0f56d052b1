-- The columns of each table, in their order.
use Rattle.std.specs.Prelude.{◌≡◌, ℕ, Bool, List, [], ◌∷◌, ◌++◌, Option, Some, length, slice_get, position, codes}
use Rattle.std.specs.Option.{option_map, option_and_then}
use Rattle.pfs_rows.specs.declared.table.TableKind.{TableKind}
use Rattle.pfs_rows.specs.declared.table.TableKind.TheVariants.{Waits, Stages, Statements, Transactions}
use Rattle.pfs_rows.specs.declared.table.EventTable.{EventTable}
use Rattle.pfs_rows.specs.declared.table.EventTable.TheVariants.{Current, History, HistoryLong}
use Rattle.pfs_rows.specs.declared.table.SummaryTable.{SummaryTable}
use Rattle.pfs_rows.specs.declared.table.SummaryTable.TheVariants.{ByThread, ByAccount, ByUser, ByHost, Global}
use Rattle.pfs_rows.specs.declared.table.Table.{Table}
use Rattle.pfs_rows.specs.declared.table.Table.TheVariants.{SetupActors, SetupObjects, SetupInstruments, SetupConsumers, Threads, Accounts, Users, Hosts, Events, Summary, DigestSummary}
use Rattle.pfs_catalogue.specs.LetterCases.{SameName, is_same_name}
use Rattle.pfs_catalogue.specs.declared.columns.Column.{Column}
use Rattle.pfs_catalogue.specs.declared.columns.ColumnKind.{ColumnKind}
use Rattle.pfs_catalogue.specs.declared.columns.ColumnKind.TheVariants.{Number, Text}

-- a column: its name, and whether it shows numbers or texts
pub record Named : Type 0 where
  pub name : List ℕ
  pub kind : ColumnKind

-- what a `Column` is
abbrev pub shown : Column → Named
shown column = record { name = column.name.now; kind = column.kind }

abbrev pub number : List ℕ → Named
number name = record { name = name; kind = Number }

abbrev pub text : List ℕ → Named
text name = record { name = name; kind = Text }

-- how many connections there are now, and were ever
abbrev pub connection_columns : List Named
connection_columns = number (codes "CURRENT_CONNECTIONS") ∷ number (codes "TOTAL_CONNECTIONS") ∷ []

-- what every event table shows first
abbrev pub event_columns : List Named
event_columns =
    number (codes "THREAD_ID")
    ∷ number (codes "EVENT_ID")
    ∷ number (codes "END_EVENT_ID")
    ∷ text (codes "EVENT_NAME")
    ∷ number (codes "TIMER_START")
    ∷ number (codes "TIMER_END")
    ∷ number (codes "TIMER_WAIT")
    ∷ number (codes "NESTING_EVENT_ID")
    ∷ text (codes "NESTING_EVENT_TYPE")
    ∷ []

-- what an event table shows after that, by the kind of its events
abbrev pub event_columns_of : TableKind → List Named
event_columns_of Waits = text (codes "OBJECT_SCHEMA") ∷ text (codes "OBJECT_NAME") ∷ []
event_columns_of Stages = []
event_columns_of Statements =
    number (codes "LOCK_TIME")
    ∷ number (codes "ERRORS")
    ∷ number (codes "WARNINGS")
    ∷ number (codes "ROWS_AFFECTED")
    ∷ number (codes "ROWS_SENT")
    ∷ number (codes "ROWS_EXAMINED")
    ∷ text (codes "DIGEST")
    ∷ []
event_columns_of Transactions = text (codes "ACCESS_MODE") ∷ []

-- whose events a summary counts, and of which class
abbrev pub summary_columns : SummaryTable → List Named
summary_columns ByThread = number (codes "THREAD_ID") ∷ text (codes "EVENT_NAME") ∷ []
summary_columns ByAccount = text (codes "USER") ∷ text (codes "HOST") ∷ text (codes "EVENT_NAME") ∷ []
summary_columns ByUser = text (codes "USER") ∷ text (codes "EVENT_NAME") ∷ []
summary_columns ByHost = text (codes "HOST") ∷ text (codes "EVENT_NAME") ∷ []
summary_columns Global = text (codes "EVENT_NAME") ∷ []

-- how many events there were, and their times
abbrev pub time_numbers : List Named
time_numbers =
    number (codes "COUNT_STAR")
    ∷ number (codes "SUM_TIMER_WAIT")
    ∷ number (codes "MIN_TIMER_WAIT")
    ∷ number (codes "AVG_TIMER_WAIT")
    ∷ number (codes "MAX_TIMER_WAIT")
    ∷ []

-- the sums of what statements did
abbrev pub statement_sums : List Named
statement_sums =
    number (codes "SUM_LOCK_TIME")
    ∷ number (codes "SUM_ERRORS")
    ∷ number (codes "SUM_WARNINGS")
    ∷ number (codes "SUM_ROWS_AFFECTED")
    ∷ number (codes "SUM_ROWS_SENT")
    ∷ number (codes "SUM_ROWS_EXAMINED")
    ∷ []

-- the number and times of the transactions with this ending
abbrev pub access_numbers : List ℕ → List Named
access_numbers ending =
    number (codes "COUNT" ++ ending)
    ∷ number (codes "SUM_TIMER" ++ ending)
    ∷ number (codes "MIN_TIMER" ++ ending)
    ∷ number (codes "AVG_TIMER" ++ ending)
    ∷ number (codes "MAX_TIMER" ++ ending)
    ∷ []

-- the numbers of a summary, by the kind of its events
abbrev pub summary_numbers : TableKind → List Named
summary_numbers Waits = time_numbers
summary_numbers Stages = time_numbers
summary_numbers Statements = time_numbers ++ statement_sums
summary_numbers Transactions =
    time_numbers ++ (access_numbers (codes "_READ_WRITE") ++ access_numbers (codes "_READ_ONLY"))

-- the columns of a table
abbrev pub columns_of : Table → List Named
columns_of SetupActors =
    text (codes "HOST") ∷ text (codes "USER") ∷ text (codes "ROLE") ∷ text (codes "ENABLED") ∷ text (codes "HISTORY")
    ∷ []
columns_of SetupObjects =
    text (codes "OBJECT_TYPE") ∷ text (codes "OBJECT_SCHEMA") ∷ text (codes "OBJECT_NAME") ∷ text (codes "ENABLED")
    ∷ text (codes "TIMED") ∷ []
columns_of SetupInstruments = text (codes "NAME") ∷ text (codes "ENABLED") ∷ text (codes "TIMED") ∷ []
columns_of SetupConsumers = text (codes "NAME") ∷ text (codes "ENABLED") ∷ []
columns_of Threads = number (codes "THREAD_ID") ∷ text (codes "PROCESSLIST_USER") ∷ text (codes "PROCESSLIST_HOST")
    ∷ text (codes "INSTRUMENTED") ∷ text (codes "HISTORY") ∷ []
columns_of Accounts = text (codes "USER") ∷ text (codes "HOST") ∷ connection_columns
columns_of Users = text (codes "USER") ∷ connection_columns
columns_of Hosts = text (codes "HOST") ∷ connection_columns
columns_of (Events kind table) = event_columns ++ event_columns_of kind
columns_of (Summary kind table) = summary_columns table ++ summary_numbers kind
columns_of DigestSummary =
    text (codes "SCHEMA_NAME") ∷ text (codes "DIGEST") ∷ text (codes "DIGEST_TEXT") ∷ (time_numbers ++ statement_sums)

abbrev pub has_name : List ℕ → Named → Bool
has_name name column = is_same_name column.name name

-- the place of the column of that name, in any letter case
abbrev pub column_place : Table → List ℕ → Option ℕ
column_place table name = position (has_name name) (columns_of table)

-- the kind of the column at a place
abbrev pub kind_at : Table → ℕ → Option ColumnKind
kind_at table place = option_map (λ column. column.kind) (slice_get (columns_of table) place)

-- the column at this place has this name, in any letter case
abbrev pub IsColumn : Table → List ℕ → ℕ → Type 0
IsColumn table name place = (column : Named) × (slice_get (columns_of table) place ≡ Some column)
    × SameName column.name name

-- the names of a table's columns differ, also in other letter cases
abbrev pub NamesDiffer : Type 0
NamesDiffer = (table : Table) (a b : Named) (i j : ℕ) → slice_get (columns_of table) i ≡ Some a
    → slice_get (columns_of table) j ≡ Some b → SameName a.name b.name → i ≡ j

-- each column is found at its place by its name
abbrev pub AreFound : Type 0
AreFound = (table : Table) (name : List ℕ) (place : ℕ) → IsColumn table name place
    → column_place table name ≡ Some place
