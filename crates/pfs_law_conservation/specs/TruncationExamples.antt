-- Truncations, worked: session 1 of the user u and sessions 2 and 3 of the user v, all from the host h, while session 2
-- alone is still there.
use Rattle.std.specs.Prelude.{◌≡◌, [], ◌∷◌, ◌++◌, map, replicate, codes, Some, None}
use Rattle.pfs_admin.specs.FoldLaws.{row_of}
use Rattle.pfs_admin.specs.OpeningState.{table_flags}
use Rattle.pfs_admin.specs.AdministrationStates.{State, connected, has_quit, thread_flags}
use Rattle.pfs_admin.specs.Truncations.{has_truncated, work_of_truncation}
use Rattle.pfs_admin.specs.Works.{word_at}
use Rattle.pfs_classes.specs.declared.setting.TableName.{TableName}
use Rattle.pfs_containers.specs.Administration.{Containers, current}
use Rattle.pfs_containers.specs.ContainerState.{Kept}
use Rattle.pfs_containers.specs.declared.containers.Account.{Account}
use Rattle.pfs_levels.specs.Flushes.{from_of}
use Rattle.pfs_levels.specs.PlainStore.{word}
use Rattle.pfs_matching.specs.ActorRules.{opening_actors}
use Rattle.pfs_matching.specs.ObjectRules.{opening_objects}
use Rattle.pfs_rows.specs.declared.table.SummaryTable.TheVariants.{Global}
use Rattle.pfs_rows.specs.declared.table.TableKind.TheVariants.{Waits}
use Rattle.pfs_rows.specs.declared.truncations.Truncation.{Truncation}
use Rattle.pfs_rows.specs.declared.truncations.Truncation.TheVariants.{Summary, Accounts, Users, Hosts, SetupActors, SetupObjects}
use Rattle.pfs_law_conservation.specs.TruncationLaws.{HasSession, HasNoSession, noted}

-- three slots, and two places of each other kind
abbrev pub nobody : Kept
nobody = record {
  now = record {
    places = record {
      threads = None ∷ None ∷ None ∷ [];
      accounts = None ∷ None ∷ [];
      users = None ∷ None ∷ [];
      hosts = None ∷ None ∷ [];
    };
    lost_threads = 0;
    lost_accounts = 0;
    lost_users = 0;
    lost_hosts = 0;
    account_totals = 0 ∷ 0 ∷ [];
    user_totals = 0 ∷ 0 ∷ [];
    host_totals = 0 ∷ 0 ∷ [];
  };
  connects = 0;
}

abbrev pub first_table : TableName
first_table = record { schema = codes "shop"; name = codes "orders" }

-- the first table's word is on; the second one isn't there
abbrev pub start : State
start = record {
  kept = nobody;
  words = word 0 63 ∷ (replicate 95 (word 0 0) ++ word 0 3 ∷ word 0 0 ∷ []);
  actors = opening_actors;
  objects = opening_objects;
  names = codes "u" ∷ codes "v" ∷ codes "h" ∷ [];
  classes = [];
  tables = first_table ∷ [];
  cells = 0 ∷ 62 ∷ 63 ∷ [];
  kinds = record { waits = 0 ∷ []; stages = []; statements = []; transactions = 62 ∷ 63 ∷ []; digests = 1 };
  actions = 0;
}

-- sessions 1, 2 and 3 have connected, and 1 and 3 have ended
abbrev pub one : State
one = has_quit (has_quit (connected (connected (connected start 1 0 2) 2 1 2) 3 1 2) 1) 3

abbrev pub behind : Truncation → Containers
behind what = (has_truncated one what).kept.now

abbrev pub of_u : Account
of_u = record { user_name = 0; host_name = 2; user = Some 0; host = Some 0 }

abbrev pub of_v : Account
of_v = record { user_name = 1; host_name = 2; user = Some 1; host = Some 0 }

pub record Worked : Type 0 where
  pub accounts_before : one.kept.now.places.accounts ≡ Some of_u ∷ Some of_v ∷ []
  pub account_totals_before : one.kept.now.account_totals ≡ 1 ∷ 2 ∷ []
  pub users_before : one.kept.now.places.users ≡ Some 0 ∷ Some 1 ∷ []
  pub user_totals_before : one.kept.now.user_totals ≡ 1 ∷ 2 ∷ []
  pub hosts_before : one.kept.now.places.hosts ≡ Some 2 ∷ None ∷ []
  pub host_totals_before : one.kept.now.host_totals ≡ 3 ∷ 0 ∷ []
  -- u's account has no session any more, and v's has one
  pub none : HasNoSession (λ x. x.account) one.kept.now.places.threads 0
  pub has : HasSession (λ x. x.account) one.kept.now.places.threads 1
  pub now : current (λ x. x.account) one.kept.now.places.threads 1 ≡ 1
  -- `accounts`: u's is freed, and v's has had the one connection that it has; users and hosts stay
  pub accounts : (behind Accounts).places.accounts ≡ None ∷ Some of_v ∷ []
  pub account_totals : (behind Accounts).account_totals ≡ 0 ∷ 1 ∷ []
  pub users_stay : (behind Accounts).places.users ≡ Some 0 ∷ Some 1 ∷ []
  pub user_totals_stay : (behind Accounts).user_totals ≡ 1 ∷ 2 ∷ []
  pub hosts_stay : (behind Accounts).places.hosts ≡ Some 2 ∷ None ∷ []
  pub host_totals_stay : (behind Accounts).host_totals ≡ 3 ∷ 0 ∷ []
  pub threads_stay : (behind Accounts).places.threads ≡ one.kept.now.places.threads
  -- `users`: the user u and its account are freed; v's account keeps its total, and the user v doesn't
  pub by_users : (behind Users).places.accounts ≡ None ∷ Some of_v ∷ []
  pub totals_by_users : (behind Users).account_totals ≡ 0 ∷ 2 ∷ []
  pub users : (behind Users).places.users ≡ None ∷ Some 1 ∷ []
  pub user_totals : (behind Users).user_totals ≡ 0 ∷ 1 ∷ []
  pub hosts_by_users : (behind Users).host_totals ≡ 3 ∷ 0 ∷ []
  -- `hosts`: the host h has a session and stays; u's account is freed, and the user u stays
  pub by_hosts : (behind Hosts).places.accounts ≡ None ∷ Some of_v ∷ []
  pub totals_by_hosts : (behind Hosts).account_totals ≡ 0 ∷ 2 ∷ []
  pub hosts : (behind Hosts).places.hosts ≡ Some 2 ∷ None ∷ []
  pub host_totals : (behind Hosts).host_totals ≡ 1 ∷ 0 ∷ []
  pub users_by_hosts : (behind Hosts).places.users ≡ Some 0 ∷ Some 1 ∷ []
  -- a summary leaves all of it
  pub summary : has_truncated one (Summary Waits Global) ≡ noted one
  -- behind `setup_actors` a new session of u is off, and the one that is there still on
  pub new_before : thread_flags one 0 2 ≡ 3
  pub new_behind : thread_flags (has_truncated one SetupActors) 0 2 ≡ 0
  pub there : word_at (has_truncated one SetupActors).words 2 ≡ word 1 3
  -- behind `setup_objects` the first table is off; no other word is set
  pub table_before : table_flags one.objects (Some first_table) ≡ 3
  pub word_before : word_at one.words 96 ≡ word 0 3
  pub table_behind : table_flags (has_truncated one SetupObjects).objects (Some first_table) ≡ 0
  pub word_behind : word_at (has_truncated one SetupObjects).words 96 ≡ word 1 0
  pub other_word : word_at (has_truncated one SetupObjects).words 97 ≡ word 0 0
  pub thread_word : word_at (has_truncated one SetupObjects).words 2 ≡ word 1 3
  -- of waits the cells of v's thread and of both accounts, then those of transactions
  pub takes : map from_of (work_of_truncation one Accounts).moves
      ≡ 193 ∷ 2177 ∷ 2241 ∷ 255 ∷ 256 ∷ 2239 ∷ 2240 ∷ 2303 ∷ 2304 ∷ []
  -- the info rows of accounts from 33 on, of users from 65 on, of hosts from 97 on
  pub account_rows : map row_of (work_of_truncation one Accounts).signs ≡ 33 ∷ 34 ∷ []
  pub user_rows : map row_of (work_of_truncation one Users).signs ≡ 33 ∷ 65 ∷ 66 ∷ []
  pub host_rows : map row_of (work_of_truncation one Hosts).signs ≡ 33 ∷ 97 ∷ []
