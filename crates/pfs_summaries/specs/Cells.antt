-- Which cells belong to a row of a summary, what they have counted, and which of them were busy.
use Rattle.std.specs.Prelude.{ℕ, ◌==◌, ◌&&◌, Bool, true, false, if◌then◌else◌, List, option_and_then, Option, Some, None}
use Rattle.std.specs.List.{list_any, filter_map}
use Rattle.std.specs.Option.{option_map}
use Rattle.pfs_rows.specs.declared.place.Place.{Place}
use Rattle.pfs_rows.specs.declared.place.Place.TheVariants.{ThreadInfo, AccountInfo, HostInfo, ThreadCell, AccountCell, UserCell, HostCell, GlobalCell}
use Rattle.pfs_rows.specs.declared.table.Reading.{Reading}
use Rattle.pfs_rows.specs.declared.table.Reading.TheVariants.{Slot, Word}
use Rattle.pfs_rows.specs.declared.table.SummaryTable.{SummaryTable}
use Rattle.pfs_rows.specs.declared.table.SummaryTable.TheVariants.{ByThread, ByAccount, ByUser, ByHost, Global}
use Rattle.pfs_rows.specs.Rows.{place_at}
use Rattle.pfs_containers.specs.declared.infos.ThreadInfo as thread
use Rattle.pfs_containers.specs.declared.infos.AccountInfo as account
use Rattle.pfs_stat.specs.declared.Stat.{Stat}
use Rattle.pfs_stat.specs.Stat.{merge_all, stat_of_words}
use Rattle.pfs_summaries.specs.declared.tallies.Tally.{Tally}
use Rattle.pfs_summaries.specs.FoundContents.{content_in, found_busy, thread_at, account_at}

-- the account, user and host that a thread's info shows, and the user and host that an account's shows
abbrev pub account_of_thread : List (Option (List ℕ)) → ℕ → Option ℕ
account_of_thread infos place = option_and_then (λ (info : thread.ThreadInfo). info.account) (thread_at infos place)

abbrev pub user_of_thread : List (Option (List ℕ)) → ℕ → Option ℕ
user_of_thread infos place = option_and_then (λ (info : thread.ThreadInfo). info.user) (thread_at infos place)

abbrev pub host_of_thread : List (Option (List ℕ)) → ℕ → Option ℕ
host_of_thread infos place = option_and_then (λ (info : thread.ThreadInfo). info.host) (thread_at infos place)

abbrev pub user_of_account : List (Option (List ℕ)) → ℕ → Option ℕ
user_of_account infos place = option_and_then (λ (info : account.AccountInfo). info.user) (account_at infos place)

abbrev pub host_of_account : List (Option (List ℕ)) → ℕ → Option ℕ
host_of_account infos place = option_and_then (λ (info : account.AccountInfo). info.host) (account_at infos place)

-- whose rows a cell belongs to: a thread, account, user or host by its place. By thread the thread's own; by account
-- the account's and those of the threads that show it; by user and by host its own, those of the accounts and those
-- of the threads that show it; globally, where all rows are 0's, the global ones and those of all hosts, accounts and
-- threads, and of no user
abbrev pub key_of : SummaryTable → List (Option (List ℕ)) → Place → Option ℕ
key_of ByThread infos (ThreadCell thread cell) = Some thread
key_of ByAccount infos (AccountCell account cell) = Some account
key_of ByAccount infos (ThreadCell thread cell) = account_of_thread infos thread
key_of ByUser infos (UserCell user cell) = Some user
key_of ByUser infos (AccountCell account cell) = user_of_account infos account
key_of ByUser infos (ThreadCell thread cell) = user_of_thread infos thread
key_of ByHost infos (HostCell host cell) = Some host
key_of ByHost infos (AccountCell account cell) = host_of_account infos account
key_of ByHost infos (ThreadCell thread cell) = host_of_thread infos thread
key_of Global infos (GlobalCell cell) = Some 0
key_of Global infos (HostCell host cell) = Some 0
key_of Global infos (AccountCell account cell) = Some 0
key_of Global infos (ThreadCell thread cell) = Some 0
key_of _ infos _ = None

-- which of its level's 64 cells a cell is
abbrev pub cell_of : Place → ℕ
cell_of (ThreadCell thread cell) = cell
cell_of (AccountCell account cell) = cell
cell_of (UserCell user cell) = cell
cell_of (HostCell host cell) = cell
cell_of (GlobalCell cell) = cell
cell_of _ = 0

abbrev pub is_number : ℕ → Option ℕ → Bool
is_number number None = false
is_number number (Some other) = other == number

-- the place is a cell of this number that belongs to the key
abbrev pub is_key_cell : SummaryTable → List (Option (List ℕ)) → ℕ → ℕ → Option Place → Bool
is_key_cell which infos key cell None = false
is_key_cell which infos key cell (Some place) = is_number key (key_of which infos place) && (cell_of place == cell)

-- and so a reading of it
abbrev pub reads_key_cell : SummaryTable → List (Option (List ℕ)) → ℕ → ℕ → Reading → Bool
reads_key_cell which infos key cell (Slot row seen) = is_key_cell which infos key cell (place_at row)
reads_key_cell which infos key cell (Word word version flags) = false

-- what a reading of a cell of the key counted, where it found it whole
abbrev pub counted_in : SummaryTable → List (Option (List ℕ)) → ℕ → ℕ → Reading → Option Stat
counted_in which infos key cell reading =
    if reads_key_cell which infos key cell reading then option_map stat_of_words (content_in reading) else None

-- of the cells of this number that belong to the key: the merge of those that were found whole, and whether one was
-- busy
abbrev pub tally_of : SummaryTable → List (Option (List ℕ)) → List Reading → ℕ → ℕ → Tally
tally_of which infos readings key cell = record {
  stat = merge_all (filter_map (counted_in which infos key cell) readings);
  busy = list_any (λ reading. reads_key_cell which infos key cell reading && found_busy reading) readings;
}

-- an info that, found busy, leaves a table without rows: but for the table by thread those of threads and accounts,
-- and for the global one those of hosts
abbrev pub hides_rows : SummaryTable → Option Place → Bool
hides_rows which None = false
hides_rows ByThread (Some place) = false
hides_rows which (Some (ThreadInfo thread)) = true
hides_rows which (Some (AccountInfo account)) = true
hides_rows Global (Some (HostInfo host)) = true
hides_rows which (Some place) = false

abbrev pub is_hidden_by : SummaryTable → Reading → Bool
is_hidden_by which (Slot row seen) = hides_rows which (place_at row) && found_busy (Slot row seen)
is_hidden_by which (Word word version flags) = false
