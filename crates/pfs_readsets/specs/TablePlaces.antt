-- Which places and words a table has, before anything was read.
use Rattle.std.specs.Prelude.{ℕ, ◌+◌, ◌*◌, Bool, true, false, ◌&&◌, ◌||◌, ◌==◌, nat_lt, nat_le, List, length, Option, Some, None, slice_get}
use Rattle.pfs_rows.specs.declared.place.Place.{Place}
use Rattle.pfs_rows.specs.declared.place.Place.TheVariants.{Admin, ThreadInfo, AccountInfo, UserInfo, HostInfo, ThreadCell, AccountCell, UserCell, HostCell, GlobalCell, DigestNull, Digest, Ring, Long}
use Rattle.pfs_rows.specs.declared.table.Table.{Table}
use Rattle.pfs_rows.specs.declared.table.Table.TheVariants.{SetupInstruments, SetupConsumers, Threads, Accounts, Users, Hosts, Events, Summary, DigestSummary}
use Rattle.pfs_rows.specs.declared.table.TableKind.{TableKind}
use Rattle.pfs_rows.specs.declared.table.TableKind.TheVariants.{Waits, Stages, Statements, Transactions}
use Rattle.pfs_rows.specs.declared.table.EventTable.TheVariants.{Current, History, HistoryLong}
use Rattle.pfs_rows.specs.declared.table.SummaryTable.TheVariants.{ByThread, ByUser, ByHost, Global}
use Rattle.pfs_rows.specs.Tables.{kind_number}
use Rattle.pfs_classes.specs.declared.kind.Kind.{Kind}
use Rattle.pfs_classes.specs.declared.kind.Kind.TheVariants as kinds
use Rattle.pfs_classes.specs.declared.classes.Class.{Class}
use Rattle.pfs_classes.specs.declared.setting.Setting.{Setting}

-- what a read set takes of a setting: the registered classes beside `transaction`, by id, and how many digest texts
-- have a place
pub record Scope : Type 0 where
  pub classes : List Class
  pub digests : ℕ

abbrev pub scope_of : Setting → Scope
scope_of setting = record { classes = setting.classes.classes; digests = length setting.digests }

-- the kind of events that a class of this kind has
abbrev pub table_kind : Kind → TableKind
table_kind kinds.Mutex = Waits
table_kind kinds.Rwlock = Waits
table_kind kinds.Cond = Waits
table_kind kinds.File = Waits
table_kind kinds.Socket = Waits
table_kind kinds.TableIo = Waits
table_kind kinds.TableLock = Waits
table_kind kinds.Stage = Stages
table_kind kinds.Statement = Statements
table_kind kinds.Transaction = Transactions

abbrev pub is_class_of : TableKind → Option Class → Bool
is_class_of kind None = false
is_class_of kind (Some class) = kind_number (table_kind class.kind) == kind_number kind

-- the cell is one of a registered class of the kind; `transaction` has cell 62 for READ WRITE and 63 for READ ONLY
abbrev pub is_kind_cell : List Class → TableKind → ℕ → Bool
is_kind_cell classes Waits cell = is_class_of Waits (slice_get classes cell)
is_kind_cell classes Stages cell = is_class_of Stages (slice_get classes cell)
is_kind_cell classes Statements cell = is_class_of Statements (slice_get classes cell)
is_kind_cell classes Transactions cell = nat_le 62 cell && nat_lt cell 64

-- the cells that a table has of each thread, account, user and host, and of all together
abbrev pub has_cell : Scope → Table → ℕ → Bool
has_cell scope (Summary kind which) cell = is_kind_cell scope.classes kind cell
has_cell scope _ cell = false

-- the table reads the infos of threads, and what they open
abbrev pub has_threads : Table → Bool
has_threads Threads = true
has_threads (Events kind Current) = true
has_threads (Events kind History) = true
has_threads (Summary kind which) = true
has_threads _ = false

abbrev pub has_accounts : Table → Bool
has_accounts Accounts = true
has_accounts (Summary kind ByThread) = false
has_accounts (Summary kind which) = true
has_accounts _ = false

abbrev pub has_users : Table → Bool
has_users Users = true
has_users (Summary kind ByUser) = true
has_users _ = false

abbrev pub has_hosts : Table → Bool
has_hosts Hosts = true
has_hosts (Summary kind ByHost) = true
has_hosts (Summary kind Global) = true
has_hosts _ = false

abbrev pub is_global : Table → Bool
is_global (Summary kind Global) = true
is_global _ = false

abbrev pub is_digest : Table → Bool
is_digest DigestSummary = true
is_digest _ = false

-- of a thread's 56 ring places: current waits by depth, the current stage, current statements by depth, the current
-- transaction, and ten of each kind's history
abbrev pub is_current : TableKind → ℕ → Bool
is_current Waits place = nat_lt place 4
is_current Stages place = place == 4
is_current Statements place = nat_le 5 place && nat_lt place 15
is_current Transactions place = place == 15

abbrev pub is_history : TableKind → ℕ → Bool
is_history kind place = nat_le (16 + 10 * kind_number kind) place && nat_lt place (26 + 10 * kind_number kind)

abbrev pub has_ring : Table → ℕ → Bool
has_ring (Events kind Current) place = is_current kind place
has_ring (Events kind History) place = is_history kind place
has_ring _ place = false

abbrev pub has_long : Table → ℕ → Bool
has_long (Events kind HistoryLong) number = kind_number kind == number
has_long _ number = false

-- whether a SELECT on the table reads the place, where the table has these cells, so many digest texts have a place,
-- and these rows of infos were Whole
abbrev pub reads : Table → (ℕ → Bool) → ℕ → (ℕ → Bool) → Place → Bool
reads table cells digests whole Admin = false
reads table cells digests whole (ThreadInfo thread) = has_threads table
reads table cells digests whole (AccountInfo account) = has_accounts table
reads table cells digests whole (UserInfo user) = has_users table
reads table cells digests whole (HostInfo host) = has_hosts table
reads table cells digests whole (ThreadCell thread cell) = has_threads table && (whole (1 + thread) && cells cell)
reads table cells digests whole (AccountCell account cell) = has_accounts table && (whole (33 + account) && cells cell)
reads table cells digests whole (UserCell user cell) = has_users table && (whole (65 + user) && cells cell)
reads table cells digests whole (HostCell host cell) = has_hosts table && (whole (97 + host) && cells cell)
reads table cells digests whole (GlobalCell cell) = is_global table && cells cell
reads table cells digests whole DigestNull = is_digest table
reads table cells digests whole (Digest digest) = is_digest table && nat_lt digest digests
reads table cells digests whole (Ring thread place) = has_ring table place && whole (1 + thread)
reads table cells digests whole (Long number place) = has_long table number

-- whether it loads the switch word, where so many classes are registered beside `transaction` and these rows were
-- Whole: word 0 has the consumers, word 1 + t the flags of thread t, word 33 + c those of class c
abbrev pub reads_word : Table → ℕ → (ℕ → Bool) → ℕ → Bool
reads_word SetupInstruments classes whole word = (nat_le 33 word && nat_lt word (33 + classes)) || (word == 95)
reads_word SetupConsumers classes whole word = word == 0
reads_word Threads classes whole word = (nat_le 1 word && nat_lt word 33) && whole word
reads_word _ classes whole word = false
