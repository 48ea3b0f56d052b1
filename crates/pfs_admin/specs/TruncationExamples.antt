-- Truncations of two sessions of one account, worked, while both are there and behind their ends.
use Rattle.std.specs.Prelude.{◌≡◌, [], ◌∷◌, length, map, Some, None}
use Rattle.pfs_rows.specs.declared.table.TableKind.TheVariants.{Waits, Stages, Transactions}
use Rattle.pfs_rows.specs.declared.table.EventTable.TheVariants.{Current, History, HistoryLong}
use Rattle.pfs_rows.specs.declared.table.SummaryTable.TheVariants.{ByThread, ByAccount, ByUser, ByHost, Global}
use Rattle.pfs_levels.specs.Moves.{ask}
use Rattle.pfs_rows.specs.declared.truncations.Truncation.TheVariants.{Events, Summary, DigestSummary, Accounts, Users, Hosts, SetupActors}
use Rattle.pfs_admin.specs.Examples.{start}
use Rattle.pfs_admin.specs.FoldLaws.{row_of}
use Rattle.pfs_admin.specs.AdministrationStates.{State, connected, has_quit}
use Rattle.pfs_admin.specs.Truncations.{work_of_truncation, has_truncated}
use Rattle.pfs_admin.specs.Works.{Releases}

-- sessions 1 and 2 are connected; session 1 has ended; both have
abbrev pub both : State
both = connected (connected start 1 0 1) 2 0 1

abbrev pub one : State
one = has_quit both 1

abbrev pub none : State
none = has_quit one 2

-- by account the cells of both threads go to their account, which goes to its user and its host; the summary of
-- transactions moves the two cells of that kind, thread by thread
pub record WorkedTruncations : Type 0 where
  pub by_account : (work_of_truncation both (Summary Waits ByAccount)).moves
      ≡ ask 129 (2177 ∷ []) ∷ ask 193 (2177 ∷ []) ∷ ask 2177 (4225 ∷ 6273 ∷ []) ∷ []
  pub by_thread : (work_of_truncation both (Summary Transactions ByThread)).moves
      ≡ ask 191 (2239 ∷ []) ∷ ask 192 (2240 ∷ []) ∷ ask 255 (2239 ∷ []) ∷ ask 256 (2240 ∷ []) ∷ []
  -- by user the account's cell goes on to its host, and the user's is dropped; by host the host's goes on to the
  -- global one, and the user's stays as it is
  pub by_user : (work_of_truncation one (Summary Waits ByUser)).moves
      ≡ ask 193 (2177 ∷ []) ∷ ask 2177 (4225 ∷ 6273 ∷ []) ∷ ask 4225 [] ∷ []
  pub by_host : (work_of_truncation one (Summary Waits ByHost)).moves
      ≡ ask 193 (2177 ∷ []) ∷ ask 2177 (4225 ∷ 6273 ∷ []) ∷ ask 6273 (8321 ∷ []) ∷ []
  -- the global one drops the user's, and takes the host's and the global cell last
  pub global : (work_of_truncation none (Summary Waits Global)).moves
      ≡ ask 2177 (4225 ∷ 6273 ∷ []) ∷ ask 4225 [] ∷ ask 6273 (8321 ∷ []) ∷ ask 8321 [] ∷ []
  -- a summary leaves who is connected where, and counts as one action
  pub kept : (has_truncated both (Summary Waits ByAccount)).kept ≡ both.kept
  pub count : (has_truncated both (Summary Waits ByAccount)).actions ≡ 3
  -- an account with a connection remains: it is written, and has had as many connections as it has now
  pub stays : map row_of (work_of_truncation one Accounts).signs ≡ 33 ∷ []
  pub total_before : one.kept.now.account_totals ≡ 2 ∷ []
  pub total : (has_truncated one Accounts).kept.now.account_totals ≡ 1 ∷ []
  pub still : (has_truncated one Accounts).kept.now.places ≡ one.kept.now.places
  -- one without a connection is freed, once its cells of all kinds have moved up
  pub freed : (work_of_truncation none Accounts).signs ≡ Releases 33 ∷ []
  pub moved : (work_of_truncation none Accounts).moves
      ≡ ask 2177 (4225 ∷ 6273 ∷ []) ∷ ask 2239 (4287 ∷ 6335 ∷ []) ∷ ask 2240 (4288 ∷ 6336 ∷ []) ∷ []
  pub gone : (has_truncated none Accounts).kept.now.places.accounts ≡ None ∷ []
  pub users_stay : (has_truncated none Accounts).kept.now.places.users ≡ Some 0 ∷ []
  -- `users` frees the account and the user, and leaves the host
  pub users : (work_of_truncation none Users).signs ≡ Releases 33 ∷ Releases 65 ∷ []
  pub hosts_stay : (has_truncated none Users).kept.now.places.hosts ≡ Some 1 ∷ []
  -- `hosts` frees the account and the host, and leaves the user
  pub hosts : (work_of_truncation none Hosts).signs ≡ Releases 33 ∷ Releases 97 ∷ []
  pub host_gone : (has_truncated none Hosts).kept.now.places.hosts ≡ None ∷ []
  pub user_left : (has_truncated none Hosts).kept.now.places.users ≡ Some 0 ∷ []
  -- a host with a connection remains: it is written, and has had as many connections as it has now
  pub host_alone : map row_of (work_of_truncation one Hosts).signs ≡ 97 ∷ []
  pub host_total_before : one.kept.now.host_totals ≡ 2 ∷ []
  pub host_total : (has_truncated one Hosts).kept.now.host_totals ≡ 1 ∷ []
  -- while a session is there, the account that remains isn't written, and the user is
  pub user_alone : map row_of (work_of_truncation one Users).signs ≡ 65 ∷ []
  pub account_total : (has_truncated one Users).kept.now.account_totals ≡ 2 ∷ []
  pub actors : (has_truncated both SetupActors).actors ≡ []
  -- the row of the digests without a place is cleared first, then that of each place
  pub digests : (work_of_truncation both DigestSummary).moves ≡ ask 8385 [] ∷ ask 8386 [] ∷ ask 8387 [] ∷ []
  -- an event table releases its places of each live thread, also those that are free, and nothing moves
  pub current : (work_of_truncation both (Events Stages Current)).signs ≡ Releases 8454 ∷ Releases 8510 ∷ []
  pub ended : (work_of_truncation one (Events Waits Current)).signs
      ≡ Releases 8506 ∷ Releases 8507 ∷ Releases 8508 ∷ Releases 8509 ∷ []
  pub history : map row_of (work_of_truncation one (Events Stages History)).signs
      ≡ 8532 ∷ 8533 ∷ 8534 ∷ 8535 ∷ 8536 ∷ 8537 ∷ 8538 ∷ 8539 ∷ 8540 ∷ 8541 ∷ []
  -- a long history releases all of its places, whoever is there
  pub long : length (work_of_truncation none (Events Waits HistoryLong)).signs ≡ 1000
  pub events_move : (work_of_truncation both (Events Waits Current)).moves ≡ []
  pub events_kept : (has_truncated both (Events Waits Current)).kept ≡ both.kept
  pub digests_kept : (has_truncated both DigestSummary).kept ≡ both.kept
