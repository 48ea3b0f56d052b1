-- What may be done with a table, and the order of its rows.
use Rattle.std.specs.Prelude.{ℕ, ◌==◌, Bool, List, [], ◌∷◌, Option, Some, None, slice_get, codes}
use Rattle.std.specs.List.{list_any}
use Rattle.std.specs.Option.{option_and_then}
use Rattle.pfs_rows.specs.declared.table.EventTable.TheVariants.{Current, History, HistoryLong}
use Rattle.pfs_rows.specs.declared.table.SummaryTable.TheVariants.{ByThread, ByAccount, ByUser, ByHost, Global}
use Rattle.pfs_rows.specs.declared.table.Table.{Table}
use Rattle.pfs_rows.specs.declared.table.Table.TheVariants.{SetupActors, SetupObjects, SetupInstruments, SetupConsumers, Threads, Accounts, Users, Hosts, Events, Summary, DigestSummary}
use Rattle.pfs_catalogue.specs.Columns.{column_place}
use Rattle.pfs_catalogue.specs.declared.commands.CommandKind.{CommandKind}
use Rattle.pfs_catalogue.specs.declared.commands.CommandKind.TheVariants.{Select, Update, Insert, Delete, Truncate}
use Rattle.pfs_catalogue.specs.declared.commands.Flag.{Flag}
use Rattle.pfs_catalogue.specs.declared.commands.Flag.TheVariants.{First, Second}
use Rattle.pfs_catalogue.specs.declared.keys.TableKey.{TableKey}
use Rattle.pfs_catalogue.specs.declared.keys.KeyNumber.{KeyNumber}
use Rattle.pfs_catalogue.specs.declared.keys.KeyNumber.TheVariants.{ClassId, ConsumerBit, Ticket, DigestRow}

-- the commands that a table allows
abbrev pub commands_of : Table → List CommandKind
commands_of SetupActors = Select ∷ Update ∷ Insert ∷ Delete ∷ Truncate ∷ []
commands_of SetupObjects = Select ∷ Update ∷ Insert ∷ Delete ∷ Truncate ∷ []
commands_of SetupInstruments = Select ∷ Update ∷ []
commands_of SetupConsumers = Select ∷ Update ∷ []
commands_of Threads = Select ∷ Update ∷ []
commands_of Accounts = Select ∷ Truncate ∷ []
commands_of Users = Select ∷ Truncate ∷ []
commands_of Hosts = Select ∷ Truncate ∷ []
commands_of (Events kind table) = Select ∷ Truncate ∷ []
commands_of (Summary kind table) = Select ∷ Truncate ∷ []
commands_of DigestSummary = Select ∷ Truncate ∷ []

abbrev pub command_number : CommandKind → ℕ
command_number Select = 0
command_number Update = 1
command_number Insert = 2
command_number Delete = 3
command_number Truncate = 4

-- the command is among those that the table allows
abbrev pub is_allowed : Table → CommandKind → Bool
is_allowed table command = list_any (λ other. command_number other == command_number command) (commands_of table)

-- the names of the columns that an UPDATE may change: the two flags of a row, or its one flag
abbrev pub flag_names : Table → List (List ℕ)
flag_names SetupActors = codes "ENABLED" ∷ codes "HISTORY" ∷ []
flag_names SetupObjects = codes "ENABLED" ∷ codes "TIMED" ∷ []
flag_names SetupInstruments = codes "ENABLED" ∷ codes "TIMED" ∷ []
flag_names SetupConsumers = codes "ENABLED" ∷ []
flag_names Threads = codes "INSTRUMENTED" ∷ codes "HISTORY" ∷ []
flag_names Accounts = []
flag_names Users = []
flag_names Hosts = []
flag_names (Events kind table) = []
flag_names (Summary kind table) = []
flag_names DigestSummary = []

abbrev pub flag_number : Flag → ℕ
flag_number First = 0
flag_number Second = 1

-- the place of the column that has this flag of a row
abbrev pub flag_place : Table → Flag → Option ℕ
flag_place table flag = option_and_then (column_place table) (slice_get (flag_names table) (flag_number flag))

-- rows in the order of their first columns
abbrev pub by_columns : ℕ → TableKey
by_columns n = record { columns = n; number = None }

-- rows in the order of their first columns, and then of a number that they don't show
abbrev pub then_by : ℕ → KeyNumber → TableKey
then_by n number = record { columns = n; number = Some number }

-- what the rows of a table are ordered by
abbrev pub table_key : Table → TableKey
table_key SetupActors = by_columns 3
table_key SetupObjects = by_columns 3
table_key SetupInstruments = then_by 0 ClassId
table_key SetupConsumers = then_by 0 ConsumerBit
table_key Threads = by_columns 1
table_key Accounts = by_columns 2
table_key Users = by_columns 1
table_key Hosts = by_columns 1
table_key (Events kind Current) = by_columns 2
table_key (Events kind History) = by_columns 2
table_key (Events kind HistoryLong) = then_by 0 Ticket
table_key (Summary kind ByThread) = then_by 1 ClassId
table_key (Summary kind ByAccount) = then_by 2 ClassId
table_key (Summary kind ByUser) = then_by 1 ClassId
table_key (Summary kind ByHost) = then_by 1 ClassId
table_key (Summary kind Global) = then_by 0 ClassId
table_key DigestSummary = then_by 0 DigestRow
