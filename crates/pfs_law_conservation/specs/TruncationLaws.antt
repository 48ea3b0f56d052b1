-- What a truncation does to who is connected where, to the switch words and to the rows of the setup tables.
use Rattle.std.specs.Prelude.{ℕ, ◌≡◌, ◌<◌, ◌+◌, List, [], length, map, Option, Some, None, slice_get}
use Rattle.std.specs.List.{slice_index_or}
use Rattle.pfs_admin.specs.declared.changes.Change.{Change}
use Rattle.pfs_admin.specs.Fold.{state_of}
use Rattle.pfs_admin.specs.FoldLaws.{row_of}
use Rattle.pfs_admin.specs.OpeningState.{table_flags}
use Rattle.pfs_admin.specs.AdministrationStates.{State, thread_flags}
use Rattle.pfs_admin.specs.Truncations.{has_truncated, work_of_truncation}
use Rattle.pfs_admin.specs.Works.{word_at}
use Rattle.pfs_law_session.specs.Takes.{AreOnce}
use Rattle.pfs_board.specs.declared.view.Label.{Label}
use Rattle.pfs_classes.specs.declared.setting.Setting.{Setting}
use Rattle.pfs_containers.specs.Administration.{Containers, current}
use Rattle.pfs_containers.specs.Connections.{entry_at, entry_of}
use Rattle.pfs_containers.specs.Connections.{State as Places}
use Rattle.pfs_containers.specs.declared.containers.Account.{Account}
use Rattle.pfs_containers.specs.declared.containers.Connection.{Connection}
use Rattle.pfs_levels.specs.Flushes.{Ascends, from_of}
use Rattle.pfs_rows.specs.declared.table.SummaryTable.{SummaryTable}
use Rattle.pfs_rows.specs.declared.table.EventTable.{EventTable}
use Rattle.pfs_rows.specs.declared.table.TableKind.{TableKind}
use Rattle.pfs_rows.specs.declared.truncations.Truncation.{Truncation}
use Rattle.pfs_rows.specs.declared.truncations.Truncation.TheVariants.{Events, Summary, DigestSummary, Accounts, Users, Hosts, SetupActors, SetupObjects}

-- the session of some slot has the place
pub record HasSession (which : Connection → Option ℕ) (threads : List (Option Connection)) (place : ℕ) : Type 0 where
  pub slot : ℕ
  pub session : Connection
  pub stands : entry_at threads slot ≡ Some session
  pub has : which session ≡ Some place

abbrev pub HasNoSession : (Connection → Option ℕ) → List (Option Connection) → ℕ → Type 0
HasNoSession which threads place = HasSession which threads place → ⊥

-- there are as many places as before; what stands at one that a session has stays, and any other is free
pub record AreFreed (X : Type 0) (which : Connection → Option ℕ) (threads : List (Option Connection))
    (before after : List (Option X)) : Type 0 where
  pub places : length after ≡ length before
  pub stays : (place : ℕ) → HasSession which threads place → entry_at after place ≡ entry_at before place
  pub freed : (place : ℕ) → HasNoSession which threads place → entry_at after place ≡ None

-- TOTAL_CONNECTIONS of each place becomes CURRENT_CONNECTIONS
pub record AreCountedAnew (which : Connection → Option ℕ) (threads : List (Option Connection))
    (before after : List ℕ) : Type 0 where
  pub numbers : length after ≡ length before
  pub now : (place : ℕ) → place < length before → slice_index_or after place 0 ≡ current which threads place

-- TOTAL_CONNECTIONS of a place that a session has stays, and is none at any other place
pub record AreCountedOn (which : Connection → Option ℕ) (threads : List (Option Connection))
    (before after : List ℕ) : Type 0 where
  pub numbers : length after ≡ length before
  pub stays : (place : ℕ) → HasSession which threads place
      → slice_index_or after place 0 ≡ slice_index_or before place 0
  pub freed : (place : ℕ) → HasNoSession which threads place → slice_index_or after place 0 ≡ 0

-- sessions stay in their slots, and what was lost stays counted
pub record AreSessionsLeft (before after : Containers) : Type 0 where
  pub threads : after.places.threads ≡ before.places.threads
  pub lost_threads : after.lost_threads ≡ before.lost_threads
  pub lost_accounts : after.lost_accounts ≡ before.lost_accounts
  pub lost_users : after.lost_users ≡ before.lost_users
  pub lost_hosts : after.lost_hosts ≡ before.lost_hosts

-- words, setup tables' rows, names, classes, tables and cells stay, and so does the number of connects; there is one action more
pub record IsRestLeft (before after : State) : Type 0 where
  pub connects : after.kept.connects ≡ before.kept.connects
  pub words : after.words ≡ before.words
  pub actors : after.actors ≡ before.actors
  pub objects : after.objects ≡ before.objects
  pub names : after.names ≡ before.names
  pub classes : after.classes ≡ before.classes
  pub tables : after.tables ≡ before.tables
  pub cells : after.cells ≡ before.cells
  pub kinds : after.kinds ≡ before.kinds
  pub actions : after.actions ≡ before.actions + 1

pub record AccountsTruncated (before after : Containers) : Type 0 where
  pub sessions : AreSessionsLeft before after
  pub accounts : AreFreed Account (λ x. x.account) before.places.threads before.places.accounts after.places.accounts
  pub account_totals : AreCountedAnew (λ x. x.account) before.places.threads before.account_totals after.account_totals
  pub users : after.places.users ≡ before.places.users
  pub user_totals : after.user_totals ≡ before.user_totals
  pub hosts : after.places.hosts ≡ before.places.hosts
  pub host_totals : after.host_totals ≡ before.host_totals

pub record UsersTruncated (before after : Containers) : Type 0 where
  pub sessions : AreSessionsLeft before after
  pub accounts : AreFreed Account (λ x. x.account) before.places.threads before.places.accounts after.places.accounts
  pub account_totals : AreCountedOn (λ x. x.account) before.places.threads before.account_totals after.account_totals
  pub users : AreFreed ℕ (λ x. x.user) before.places.threads before.places.users after.places.users
  pub user_totals : AreCountedAnew (λ x. x.user) before.places.threads before.user_totals after.user_totals
  pub hosts : after.places.hosts ≡ before.places.hosts
  pub host_totals : after.host_totals ≡ before.host_totals

pub record HostsTruncated (before after : Containers) : Type 0 where
  pub sessions : AreSessionsLeft before after
  pub accounts : AreFreed Account (λ x. x.account) before.places.threads before.places.accounts after.places.accounts
  pub account_totals : AreCountedOn (λ x. x.account) before.places.threads before.account_totals after.account_totals
  pub users : after.places.users ≡ before.places.users
  pub user_totals : after.user_totals ≡ before.user_totals
  pub hosts : AreFreed ℕ (λ x. x.host) before.places.threads before.places.hosts after.places.hosts
  pub host_totals : AreCountedAnew (λ x. x.host) before.places.threads before.host_totals after.host_totals

abbrev pub AccountsLaw : Type 0
AccountsLaw = (s : State) → AccountsTruncated s.kept.now (has_truncated s Accounts).kept.now
    × IsRestLeft s (has_truncated s Accounts)

abbrev pub UsersLaw : Type 0
UsersLaw = (s : State) → UsersTruncated s.kept.now (has_truncated s Users).kept.now
    × IsRestLeft s (has_truncated s Users)

abbrev pub HostsLaw : Type 0
HostsLaw = (s : State) → HostsTruncated s.kept.now (has_truncated s Hosts).kept.now
    × IsRestLeft s (has_truncated s Hosts)

-- the state behind an action that changes nothing
abbrev pub noted : State → State
noted s = record s { actions = s.actions + 1 }

-- a truncation of an event table or a summary changes nothing but the number of actions, and a setup table loses its
-- rows; behind `setup_actors` the threads of new sessions are off, while those that are there keep their flags; behind
-- `setup_objects` all tables are off, and no other word is set
pub record AreLeft (s : State) : Type 0 where
  pub events : (kind : TableKind) → (table : EventTable) → has_truncated s (Events kind table) ≡ noted s
  pub summary : (kind : TableKind) → (table : SummaryTable) → has_truncated s (Summary kind table) ≡ noted s
  pub digests : has_truncated s DigestSummary ≡ noted s
  pub setup_actors : has_truncated s SetupActors ≡ record (noted s) { actors = [] }
  pub new_sessions : (user host : ℕ) → thread_flags (has_truncated s SetupActors) user host ≡ 0
  pub setup_objects : has_truncated s SetupObjects
      ≡ record (noted s) { words = (has_truncated s SetupObjects).words; objects = [] }
  pub table_words : (table : ℕ) → table < 64 → (word_at (has_truncated s SetupObjects).words (96 + table)).flags ≡ 0
  pub other_words : (at : ℕ) → at < 96 → word_at (has_truncated s SetupObjects).words at ≡ word_at s.words at
  pub one_more : (what : Truncation) → (has_truncated s what).actions ≡ s.actions + 1

abbrev pub LeftLaw : Type 0
LeftLaw = (s : State) → AreLeft s

-- a session has its account, its user and its host where it says, and an account its user and its host
pub record AreStanding (s : Places) : Type 0 where
  pub session_account : (slot : ℕ) (x : Connection) (place : ℕ) → entry_at s.threads slot ≡ Some x
      → x.account ≡ Some place → entry_at s.accounts place ≡ Some (entry_of x)
  pub session_user : (slot : ℕ) (x : Connection) (place : ℕ) → entry_at s.threads slot ≡ Some x
      → x.user ≡ Some place → entry_at s.users place ≡ Some x.user_name
  pub session_host : (slot : ℕ) (x : Connection) (place : ℕ) → entry_at s.threads slot ≡ Some x
      → x.host ≡ Some place → entry_at s.hosts place ≡ Some x.host_name
  pub account_user : (at : ℕ) (account : Account) (place : ℕ) → entry_at s.accounts at ≡ Some account
      → account.user ≡ Some place → entry_at s.users place ≡ Some account.user_name
  pub account_host : (at : ℕ) (account : Account) (place : ℕ) → entry_at s.accounts at ≡ Some account
      → account.host ≡ Some place → entry_at s.hosts place ≡ Some account.host_name

-- behind the actions of any labels
abbrev pub StandingLaw : Type 0
StandingLaw = (setting : Setting) → (change : Label → Change) → (labels : List Label)
    → AreStanding (state_of setting change labels).kept.now.places

-- behind the actions of any labels the word of a table has the flags that the rows of `setup_objects` give it there
abbrev pub TableWordsLaw : Type 0
TableWordsLaw = (setting : Setting) → (change : Label → Change) → (labels : List Label) → (table : ℕ) → table < 64
    → (word_at (state_of setting change labels).words (96 + table)).flags
    ≡ table_flags (state_of setting change labels).objects (slice_get setting.tables table)

-- the rows that a truncation releases or writes ascend: those of an event table are places of rings, and those of any
-- other table info rows
abbrev pub SignsAscend : Truncation → List ℕ → Type 0
SignsAscend (Events kind table) rows = Ascends 8450 14242 rows
SignsAscend (Summary kind table) rows = Ascends 1 129 rows
SignsAscend DigestSummary rows = Ascends 1 129 rows
SignsAscend Accounts rows = Ascends 1 129 rows
SignsAscend Users rows = Ascends 1 129 rows
SignsAscend Hosts rows = Ascends 1 129 rows
SignsAscend SetupActors rows = Ascends 1 129 rows
SignsAscend SetupObjects rows = Ascends 1 129 rows

-- behind the actions of any labels
abbrev pub OrderLaw : Type 0
OrderLaw = (setting : Setting) → (change : Label → Change) → (labels : List Label) → (what : Truncation)
    → AreOnce (map from_of (work_of_truncation (state_of setting change labels) what).moves)
    × SignsAscend what (map row_of (work_of_truncation (state_of setting change labels) what).signs)
