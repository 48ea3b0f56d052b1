-- The tables' names.
use Rattle.std.specs.Prelude.{ℕ, List, ◌++◌, codes}
use Rattle.pfs_rows.specs.declared.table.TableKind.{TableKind}
use Rattle.pfs_rows.specs.declared.table.TableKind.TheVariants.{Waits, Stages, Statements, Transactions}
use Rattle.pfs_rows.specs.declared.table.EventTable.{EventTable}
use Rattle.pfs_rows.specs.declared.table.EventTable.TheVariants.{Current, History, HistoryLong}
use Rattle.pfs_rows.specs.declared.table.SummaryTable.{SummaryTable}
use Rattle.pfs_rows.specs.declared.table.SummaryTable.TheVariants.{ByThread, ByAccount, ByUser, ByHost, Global}
use Rattle.pfs_rows.specs.declared.table.Table.{Table}
use Rattle.pfs_rows.specs.declared.table.Table.TheVariants.{SetupActors, SetupObjects, SetupInstruments, SetupConsumers, Threads, Accounts, Users, Hosts, Events, Summary, DigestSummary}

-- the number of a kind in the rows of the long history
abbrev pub kind_number : TableKind → ℕ
kind_number Waits = 0
kind_number Stages = 1
kind_number Statements = 2
kind_number Transactions = 3

abbrev pub kind_word : TableKind → List ℕ
kind_word Waits = codes "waits"
kind_word Stages = codes "stages"
kind_word Statements = codes "statements"
kind_word Transactions = codes "transactions"

abbrev pub event_word : EventTable → List ℕ
event_word Current = codes "current"
event_word History = codes "history"
event_word HistoryLong = codes "history_long"

abbrev pub summary_word : SummaryTable → List ℕ
summary_word ByThread = codes "by_thread"
summary_word ByAccount = codes "by_account"
summary_word ByUser = codes "by_user"
summary_word ByHost = codes "by_host"
summary_word Global = codes "global"

-- a table's name
abbrev pub table_name : Table → List ℕ
table_name SetupActors = codes "setup_actors"
table_name SetupObjects = codes "setup_objects"
table_name SetupInstruments = codes "setup_instruments"
table_name SetupConsumers = codes "setup_consumers"
table_name Threads = codes "threads"
table_name Accounts = codes "accounts"
table_name Users = codes "users"
table_name Hosts = codes "hosts"
table_name (Events kind table) = codes "events_" ++ (kind_word kind ++ (codes "_" ++ event_word table))
table_name (Summary kind table) =
    codes "events_" ++ (kind_word kind ++ (codes "_summary_" ++ (summary_word table ++ codes "_by_event_name")))
table_name DigestSummary = codes "events_statements_summary_by_digest"
