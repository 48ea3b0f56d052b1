-- What a TRUNCATE asks for, and the state behind it. A summary's numbers move up level by level until its own rows are
-- zero; those of digests go nowhere; `accounts`, `users` and `hosts` move those of all kinds, and free what has no
-- connection; the places of an event table are released; the setup tables lose their rows. These rules are our own,
-- after MySQL's, and so is the order within an action.
use Rattle.std.specs.Prelude.{ℕ, zero, suc, ◌≡◌, ◌<◌, ◌+◌, ◌*◌, cond, Bool, true, false, List, [], ◌∷◌, ◌++◌, map, Option, Some, None, is_some}
use Rattle.std.specs.List.{slice_index_or}
use Rattle.std.specs.Option.{option_map}
use Rattle.pfs_rows.specs.declared.place.Place.TheVariants.{DigestNull, GlobalCell}
use Rattle.pfs_rows.specs.declared.table.EventTable.{EventTable}
use Rattle.pfs_rows.specs.declared.table.EventTable.TheVariants as events
use Rattle.pfs_rows.specs.declared.table.SummaryTable.{SummaryTable}
use Rattle.pfs_rows.specs.declared.table.SummaryTable.TheVariants as tables
use Rattle.pfs_rows.specs.declared.table.TableKind.{TableKind}
use Rattle.pfs_rows.specs.declared.table.TableKind.TheVariants.{Waits, Stages, Statements, Transactions}
use Rattle.pfs_rows.specs.Rows.{row_number}
use Rattle.pfs_rows.specs.Tables.{kind_number}
use Rattle.pfs_containers.specs.declared.containers.Account.{Account}
use Rattle.pfs_containers.specs.declared.containers.Connection.{Connection}
use Rattle.pfs_containers.specs.Connections.{ByThread, ByAccount, ByUser, ByHost, ByAll}
use Rattle.pfs_containers.specs.Connections as places
use Rattle.pfs_containers.specs.Administration.{Containers, Action, Truncate, Other}
use Rattle.pfs_containers.specs.Administration as fold
use Rattle.pfs_containers.specs.PlaceInfos.{thread_info_of, account_info_at, user_info_at, host_info_at}
use Rattle.pfs_containers.specs.ContainerState.{Kept}
use Rattle.pfs_containers.specs.InfoWords.{thread_words, account_words, name_words}
use Rattle.pfs_matching.specs.declared.actor_rows.ActorRow.{ActorRow}
use Rattle.pfs_matching.specs.declared.object_rows.ObjectRow.{ObjectRow}
use Rattle.pfs_levels.specs.declared.answers.Word.{Word}
use Rattle.pfs_levels.specs.declared.flushes.Source.{Source}
use Rattle.pfs_levels.specs.declared.flushes.Source.TheVariants as of
use Rattle.pfs_levels.specs.declared.places.Level.{Level}
use Rattle.pfs_levels.specs.declared.places.Level.TheVariants as levels
use Rattle.pfs_levels.specs.Flushes.{asks_of}
use Rattle.pfs_levels.specs.Moves.{Ask, ask, cost}
use Rattle.pfs_admin.specs.declared.remaining.Standing.{Standing}
use Rattle.pfs_admin.specs.declared.summaries.Reach.{Reach}
use Rattle.pfs_rows.specs.declared.truncations.Truncation.{Truncation}
use Rattle.pfs_rows.specs.declared.truncations.Truncation.TheVariants.{Events, Summary, DigestSummary, Accounts, Users, Hosts, SetupActors, SetupObjects}
use Rattle.pfs_admin.specs.AdministrationStates.{State, KindCells, kind_cells}
use Rattle.pfs_admin.specs.WordChanges.{up_to, flags_changed, words_changed}
use Rattle.pfs_admin.specs.Works.{Sign, Releases, Tags, Work, Flagging}

abbrev pub thread_source : ℕ → Connection → Source
thread_source place x =
    of.Thread (record { place = place; account = x.account; user = x.user; host = x.host })

abbrev pub account_source : ℕ → Account → Source
account_source place x =
    of.Account (record { place = place; account = None; user = x.user; host = x.host })

abbrev pub user_source : ℕ → ℕ → Source
user_source place name = of.User place

abbrev pub host_source : ℕ → ℕ → Source
host_source place name = of.Host place

-- the live thread, present account, present user or present host at a place
abbrev pub source_at : places.State → Level → ℕ → Option Source
source_at s levels.Thread place = option_map (thread_source place) (slice_index_or s.threads place None)
source_at s levels.Account place = option_map (account_source place) (slice_index_or s.accounts place None)
source_at s levels.User place = option_map (user_source place) (slice_index_or s.users place None)
source_at s levels.Host place = option_map (host_source place) (slice_index_or s.hosts place None)

abbrev pub is_there : places.State → Level → ℕ → Bool
is_there s level place = is_some (source_at s level place)

abbrev pub place_asks : List ℕ → Option Source → List Ask
place_asks cells None = []
place_asks cells (Some source) = asks_of cells source

abbrev pub asks_at : places.State → List ℕ → Level → ℕ → List Ask
asks_at s cells level place = place_asks cells (source_at s level place)

-- a level's cells are taken place by place, and cell by cell, whether or not a number stands there; no level has more
-- than 32 places
unfoldable pub level_asks : places.State → List ℕ → Level → List Ask
level_asks s cells level = up_to (asks_at s cells level) 32

-- a level that is emptied, or left
abbrev pub emptied : Bool → places.State → List ℕ → Level → List Ask
emptied false s cells level = []
emptied true s cells level = level_asks s cells level

-- the global cells that are cleared, or left: what stood there goes nowhere
abbrev pub cleared : Bool → List ℕ → List Ask
cleared false cells = []
cleared true cells = map (λ cell. ask (row_number (GlobalCell cell)) []) cells

-- which levels a summary empties beside the threads
abbrev pub reach_of : SummaryTable → Reach
reach_of tables.ByThread = record { accounts = false; users = false; hosts = false; global = false }
reach_of tables.ByAccount = record { accounts = true; users = false; hosts = false; global = false }
reach_of tables.ByUser = record { accounts = true; users = true; hosts = false; global = false }
reach_of tables.ByHost = record { accounts = true; users = false; hosts = true; global = false }
reach_of tables.Global = record { accounts = true; users = true; hosts = true; global = true }

-- lowest level first
abbrev pub lower_asks : places.State → Reach → List ℕ → List Ask
lower_asks s reach cells = level_asks s cells levels.Thread ++ emptied reach.accounts s cells levels.Account

abbrev pub upper_asks : places.State → Reach → List ℕ → List Ask
upper_asks s reach cells = emptied reach.users s cells levels.User
    ++ (emptied reach.hosts s cells levels.Host ++ cleared reach.global cells)

abbrev pub reach_asks : places.State → Reach → List ℕ → List Ask
reach_asks s reach cells = lower_asks s reach cells ++ upper_asks s reach cells

abbrev pub summary_asks : places.State → SummaryTable → List ℕ → List Ask
summary_asks s table cells = reach_asks s (reach_of table) cells

-- all kinds, one behind the other
abbrev pub all_asks : KindCells → places.State → SummaryTable → List Ask
all_asks kinds s table = summary_asks s table kinds.waits
    ++ (summary_asks s table kinds.stages
    ++ (summary_asks s table kinds.statements ++ summary_asks s table kinds.transactions))

-- the rows of digests are cleared: that of the texts without a place, then one for each place, ascending. What stood
-- there goes nowhere
abbrev pub digest_ask : ℕ → List Ask
digest_ask at = ask (row_number DigestNull + at) [] ∷ []

unfoldable pub digest_asks : ℕ → List Ask
digest_asks places = up_to digest_ask (places + 1)

-- a summary moves its own kind, by its own level; `accounts`, `users` and `hosts` move all kinds, by theirs
abbrev pub truncation_asks : KindCells → places.State → Truncation → List Ask
truncation_asks kinds s (Events kind table) = []
truncation_asks kinds s (Summary kind table) = summary_asks s table (kind_cells kinds kind)
truncation_asks kinds s DigestSummary = digest_asks kinds.digests
truncation_asks kinds s Accounts = all_asks kinds s tables.ByAccount
truncation_asks kinds s Users = all_asks kinds s tables.ByUser
truncation_asks kinds s Hosts = all_asks kinds s tables.ByHost
truncation_asks kinds s SetupActors = []
truncation_asks kinds s SetupObjects = []

-- the info rows of a level are those from here on
abbrev pub first_row : Level → ℕ
first_row levels.Thread = 1
first_row levels.Account = 33
first_row levels.User = 65
first_row levels.Host = 97

-- what the info row of a place says
abbrev pub content_at : Containers → Level → ℕ → Option (List ℕ)
content_at c levels.Thread place =
    option_map (λ x. thread_words (thread_info_of x)) (slice_index_or c.places.threads place None)
content_at c levels.Account place = option_map account_words (account_info_at c place)
content_at c levels.User place = option_map name_words (user_info_at c place)
content_at c levels.Host place = option_map name_words (host_info_at c place)

-- the info row of a place where something stood: it is released where that was freed, and else it is written or left
abbrev pub place_sign : Bool → Bool → ℕ → Option (List ℕ) → List Sign
place_sign written false row content = []
place_sign written true row None = Releases row ∷ []
place_sign false true row (Some content) = []
place_sign true true row (Some content) = Tags row content ∷ []

abbrev pub sign_at : Bool → (ℕ → Bool) → Containers → Level → ℕ → List Sign
sign_at written was after level place =
    place_sign written (was place) (first_row level + place) (content_at after level place)

-- the info rows of a level, ascending, by where something stood before and what stands there behind
unfoldable pub level_signs : Bool → (ℕ → Bool) → Containers → Level → List Sign
level_signs written was after level = up_to (sign_at written was after level) 32

-- so many rows from this one on are released, ascending, whether or not they are free
abbrev pub freed_at : ℕ → ℕ → List Sign
freed_at first place = Releases (first + place) ∷ []

unfoldable pub free_rows : ℕ → ℕ → List Sign
free_rows first count = up_to (freed_at first) count

-- all places of a thread's ring
abbrev pub free_ring : ℕ → List Sign
free_ring slot = free_rows (8450 + 56 * slot) 56

-- so many places from this one on of each live thread
abbrev pub free_slot : (ℕ → Bool) → ℕ → ℕ → ℕ → List Sign
free_slot there first count slot = cond (there slot) (free_rows (8450 + 56 * slot + first) count) []

unfoldable pub free_threads : (ℕ → Bool) → ℕ → ℕ → List Sign
free_threads there first count = up_to (free_slot there first count) 32

-- where a kind's current places begin in a thread's ring, and how many there are
abbrev pub current_first : TableKind → ℕ
current_first Waits = 0
current_first Stages = 4
current_first Statements = 5
current_first Transactions = 15

abbrev pub current_count : TableKind → ℕ
current_count Waits = 4
current_count Stages = 1
current_count Statements = 10
current_count Transactions = 1

-- an event table releases its places of every live thread, or all places of a long history
abbrev pub event_signs : (ℕ → Bool) → TableKind → EventTable → List Sign
event_signs there kind events.Current = free_threads there (current_first kind) (current_count kind)
event_signs there kind events.History = free_threads there (16 + 10 * kind_number kind) 10
event_signs there kind events.HistoryLong = free_rows (10242 + 1000 * kind_number kind) 1000

-- each remaining row of the table is written as it stands behind the action; behind `users` and `hosts` the remaining
-- accounts are not
abbrev pub truncation_signs : (Level → ℕ → Bool) → Containers → Truncation → List Sign
truncation_signs was after Accounts = level_signs true (was levels.Account) after levels.Account
truncation_signs was after Users = level_signs false (was levels.Account) after levels.Account
    ++ level_signs true (was levels.User) after levels.User
truncation_signs was after Hosts = level_signs false (was levels.Account) after levels.Account
    ++ level_signs true (was levels.Host) after levels.Host
truncation_signs was after (Events kind table) = event_signs (is_there after.places levels.Thread) kind table
truncation_signs was after (Summary kind table) = []
truncation_signs was after DigestSummary = []
truncation_signs was after SetupActors = []
truncation_signs was after SetupObjects = []

-- without any row of `setup_objects` no table is instrumented: of the words from 96 on, the 64 of the tables, those
-- that aren't off are set
abbrev pub off : ℕ → ℕ → ℕ
off word flags = 0

abbrev pub off_flags : List Word → List Flagging
off_flags words = flags_changed off words 96 64

abbrev pub off_words : List Word → List Word
off_words words = words_changed off words 96 64

-- no other table changes a word
abbrev pub truncation_flags : List Word → Truncation → List Flagging
truncation_flags words (Events kind table) = []
truncation_flags words (Summary kind table) = []
truncation_flags words DigestSummary = []
truncation_flags words Accounts = []
truncation_flags words Users = []
truncation_flags words Hosts = []
truncation_flags words SetupActors = []
truncation_flags words SetupObjects = off_flags words

abbrev pub words_behind : Truncation → List Word → List Word
words_behind (Events kind table) words = words
words_behind (Summary kind table) words = words
words_behind DigestSummary words = words
words_behind Accounts words = words
words_behind Users words = words
words_behind Hosts words = words
words_behind SetupActors words = words
words_behind SetupObjects words = off_words words

-- all rows of a setup table are removed
abbrev pub actors_behind : Truncation → List ActorRow → List ActorRow
actors_behind (Events kind table) actors = actors
actors_behind (Summary kind table) actors = actors
actors_behind DigestSummary actors = actors
actors_behind Accounts actors = actors
actors_behind Users actors = actors
actors_behind Hosts actors = actors
actors_behind SetupActors actors = []
actors_behind SetupObjects actors = actors

abbrev pub objects_behind : Truncation → List ObjectRow → List ObjectRow
objects_behind (Events kind table) objects = objects
objects_behind (Summary kind table) objects = objects
objects_behind DigestSummary objects = objects
objects_behind Accounts objects = objects
objects_behind Users objects = objects
objects_behind Hosts objects = objects
objects_behind SetupActors objects = objects
objects_behind SetupObjects objects = []

-- what a truncation is in the containers' fold, where its conservation is proved; no container has rows of digests or
-- places of events
abbrev pub level_of : SummaryTable → places.Level
level_of tables.ByThread = ByThread
level_of tables.ByAccount = ByAccount
level_of tables.ByUser = ByUser
level_of tables.ByHost = ByHost
level_of tables.Global = ByAll

abbrev pub action_of : Truncation → Action
action_of (Events kind table) = Other
action_of (Summary kind table) = Truncate (fold.Summary (kind_number kind) (level_of table))
action_of DigestSummary = Other
action_of Accounts = Truncate fold.Accounts
action_of Users = Truncate fold.Users
action_of Hosts = Truncate fold.Hosts
action_of SetupActors = Other
action_of SetupObjects = Other

abbrev pub kept_behind : Kept → Truncation → Kept
kept_behind kept what = record kept { now = fold.advanced kept.now (action_of what) }

-- the state behind a truncation, which is one action
abbrev pub has_truncated : State → Truncation → State
has_truncated s what = record s {
  kept = kept_behind s.kept what;
  words = words_behind what s.words;
  actors = actors_behind what s.actors;
  objects = objects_behind what s.objects;
  actions = s.actions + 1;
}

-- what a truncation asks for: moves, then info rows, then words
abbrev pub truncation_work : List Word → KindCells → Kept → Truncation → Work
truncation_work words kinds kept what = record {
  moves = truncation_asks kinds kept.now.places what;
  signs = truncation_signs (is_there kept.now.places) (kept_behind kept what).now what;
  flags = truncation_flags words what;
}

abbrev pub work_of_truncation : State → Truncation → Work
work_of_truncation s what = truncation_work s.words s.kinds s.kept what

-- how many of the first n places pass
abbrev pub count_up_to : (ℕ → Bool) → ℕ → ℕ
count_up_to test zero = 0
count_up_to test (suc n) = count_up_to test n + cond (test n) 1 0

-- how many places of a level something stands at
unfoldable pub standing : (ℕ → Bool) → ℕ
standing was = count_up_to was 32

-- the most places of an event table: ten of each of 32 threads, or 1,000
abbrev pub event_most : EventTable → ℕ
event_most events.Current = 320
event_most events.History = 320
event_most events.HistoryLong = 1000

-- the most rows that it writes or releases: one for each place of its tables where something stands
abbrev pub signs_most : (Level → ℕ → Bool) → Truncation → ℕ
signs_most was (Events kind table) = event_most table
signs_most was (Summary kind table) = 0
signs_most was DigestSummary = 0
signs_most was Accounts = standing (was levels.Account)
signs_most was Users = standing (was levels.Account) + standing (was levels.User)
signs_most was Hosts = standing (was levels.Account) + standing (was levels.Host)
signs_most was SetupActors = 0
signs_most was SetupObjects = 0

-- what its moves and its rows cost at most, whatever is connected: an event table moves nothing
abbrev pub moves_bound : Truncation → ℕ
moves_bound (Events kind table) = 0
moves_bound (Summary kind table) = 19074
moves_bound DigestSummary = 19074
moves_bound Accounts = 19074
moves_bound Users = 19074
moves_bound Hosts = 19074
moves_bound SetupActors = 19074
moves_bound SetupObjects = 19074

abbrev pub signs_bound : Truncation → ℕ
signs_bound (Events kind table) = 1000
signs_bound (Summary kind table) = 64
signs_bound DigestSummary = 64
signs_bound Accounts = 64
signs_bound Users = 64
signs_bound Hosts = 64
signs_bound SetupActors = 64
signs_bound SetupObjects = 64

-- and the most words that it sets
abbrev pub flags_most : Truncation → ℕ
flags_most (Events kind table) = 0
flags_most (Summary kind table) = 0
flags_most DigestSummary = 0
flags_most Accounts = 0
flags_most Users = 0
flags_most Hosts = 0
flags_most SetupActors = 0
flags_most SetupObjects = 64

-- the most takes and entries that a truncation makes: each of its moves with what that gives, the info rows, the words
abbrev pub cost_most : KindCells → places.State → Truncation → ℕ
cost_most kinds s what = cost (truncation_asks kinds s what) + (signs_most (is_there s) what + flags_most what)

abbrev pub truncation_cost : State → Truncation → ℕ
truncation_cost s what = cost_most s.kinds s.kept.now.places what

-- where something stands, as flags for each place
abbrev pub flag_at : List Bool → ℕ → Bool
flag_at flags place = slice_index_or flags place false

abbrev pub was_by : Standing → Level → ℕ → Bool
was_by there levels.Thread place = false
was_by there levels.Account place = flag_at there.accounts place
was_by there levels.User place = flag_at there.users place
was_by there levels.Host place = flag_at there.hosts place

pub record IsStanding (s : places.State) (there : Standing) : Type 0 where
  pub accounts : (place : ℕ) → place < 32 → flag_at there.accounts place ≡ is_there s levels.Account place
  pub users : (place : ℕ) → place < 32 → flag_at there.users place ≡ is_there s levels.User place
  pub hosts : (place : ℕ) → place < 32 → flag_at there.hosts place ≡ is_there s levels.Host place
