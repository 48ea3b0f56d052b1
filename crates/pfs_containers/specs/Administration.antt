-- The administration: connect, quit and TRUNCATE, as a step of a state, and the fold over numbered actions.
use Rattle.std.specs.Prelude.{ℕ, zero, suc, ◌+◌, ◌==◌, ◌&&◌, cond, Bool, List, [], ◌∷◌, Option, Some, None}
use Rattle.pfs_containers.specs.declared.containers.Account.{Account}
use Rattle.pfs_containers.specs.declared.containers.Connection.{Connection}
use Rattle.pfs_containers.specs.Connections.{is_from, State, Level, Line, Connects, Quits, Truncates, FreesAccounts, FreesUsers, FreesHosts, Others, has_by, in_use, stepped}

-- the tables that TRUNCATE takes from summaries: a kind's summary at a level, or one of the three
pub data Table : Type 0 where
  Summary : ℕ → Level → Table
  Accounts : Table
  Users : Table
  Hosts : Table

pub data Action : Type 0 where
  Connect : ℕ → ℕ → ℕ → Action  -- the session, and its user's and host's names
  Quit : ℕ → Action
  Truncate : Table → Action
  Other : Action

-- a place and what stands there
pub record Found (X : Type 0) : Type 0 where
  pub place : ℕ
  pub entry : X

abbrev pub one_up : {X : Type 0} → Option (Found X) → Option (Found X)
one_up None = None
one_up (Some found) = Some (record { place = suc found.place; entry = found.entry })

-- the lowest place whose entry passes the test
abbrev pub found_where : {X : Type 0} → (X → Bool) → List (Option X) → Option (Found X)
found_where test [] = None
found_where test (None ∷ xs) = one_up (found_where test xs)
found_where test (Some x ∷ xs) = cond (test x) (Some (record { place = 0; entry = x })) (one_up (found_where test xs))

abbrev pub next_place : Option ℕ → Option ℕ
next_place None = None
next_place (Some n) = Some (suc n)

abbrev pub lowest_free : {X : Type 0} → List (Option X) → Option ℕ
lowest_free [] = None
lowest_free (None ∷ xs) = Some 0
lowest_free (Some x ∷ xs) = next_place (lowest_free xs)

abbrev pub found_or : {X : Type 0} → Option (Found X) → Option ℕ → Option ℕ
found_or None free = free
found_or (Some found) free = Some found.place

-- a user or host is found by its name, or made at the lowest free place, or lost
abbrev pub named_place : ℕ → List (Option ℕ) → Option ℕ
named_place name xs = found_or (found_where (λ x. x == name) xs) (lowest_free xs)

abbrev pub is_account : ℕ → ℕ → Account → Bool
is_account user host entry = (entry.user_name == user) && (entry.host_name == host)

-- the session that a connect makes: an account that is there gives its user and host; else the account takes the
-- lowest free place, or is lost, and user and host are found, made or lost
abbrev pub session_by : State → ℕ → ℕ → ℕ → Option (Found Account) → Connection
session_by s number user host (Some account) = record {
  number = number;
  user_name = user;
  host_name = host;
  account = Some account.place;
  user = account.entry.user;
  host = account.entry.host;
}
session_by s number user host None = record {
  number = number;
  user_name = user;
  host_name = host;
  account = lowest_free s.accounts;
  user = named_place user s.users;
  host = named_place host s.hosts;
}

abbrev pub session_of : State → ℕ → ℕ → ℕ → Connection
session_of s number user host = session_by s number user host (found_where (is_account user host) s.accounts)

abbrev pub connect_line : State → ℕ → ℕ → ℕ → Option ℕ → Line
connect_line s number user host None = Others
connect_line s number user host (Some slot) = Connects slot (session_of s number user host)

abbrev pub quit_line : Option (Found Connection) → Line
quit_line None = Others
quit_line (Some found) = Quits found.place

abbrev pub table_line : ℕ → Table → Line
table_line kind (Summary number level) = cond (number == kind) (Truncates level) Others
table_line kind Accounts = FreesAccounts
table_line kind Users = FreesUsers
table_line kind Hosts = FreesHosts

-- what an action is for the cells of one kind
abbrev pub line_of : ℕ → State → Action → Line
line_of kind s (Connect number user host) = connect_line s number user host (lowest_free s.threads)
line_of kind s (Quit number) = quit_line (found_where (λ x. x.number == number) s.threads)
line_of kind s (Truncate table) = table_line kind table
line_of kind s Other = Others

-- the actions by their numbers from 1
abbrev pub numbered : List Action → ℕ → Action
numbered actions zero = Other
numbered [] (suc n) = Other
numbered (action ∷ actions) (suc zero) = action
numbered (action ∷ actions) (suc (suc n)) = numbered actions (suc n)

-- the places after so many actions; what an action does to them is the same for every kind
abbrev pub state_after : State → (ℕ → Action) → ℕ → State
state_after opening action zero = opening
state_after opening action (suc n) =
    stepped (state_after opening action n) (line_of 0 (state_after opening action n) (action (suc n)))

-- and before an action
abbrev pub state_before : State → (ℕ → Action) → ℕ → State
state_before opening action zero = opening
state_before opening action (suc n) = state_after opening action n

-- all of it: the places, with the counters of what was lost, and TOTAL_CONNECTIONS of each place
pub record Containers : Type 0 where
  pub places : State
  pub lost_threads : ℕ
  pub lost_accounts : ℕ
  pub lost_users : ℕ
  pub lost_hosts : ℕ
  pub account_totals : List ℕ
  pub user_totals : List ℕ
  pub host_totals : List ℕ

-- CURRENT_CONNECTIONS: how many sessions have the place
abbrev pub current : (Connection → Option ℕ) → List (Option Connection) → ℕ → ℕ
current which [] place = 0
current which (thread ∷ threads) place = cond (has_by which place thread) 1 0 + current which threads place

-- the numbers of the places from n on: one more at this place; none where it isn't in use; CURRENT_CONNECTIONS
abbrev pub added_from : ℕ → Option ℕ → List ℕ → List ℕ
added_from n place [] = []
added_from n place (total ∷ totals) = (cond (is_from n place) 1 0 + total) ∷ added_from (suc n) place totals

abbrev pub totals_kept_from : ℕ → (ℕ → Bool) → List ℕ → List ℕ
totals_kept_from n used [] = []
totals_kept_from n used (total ∷ totals) = cond (used n) total 0 ∷ totals_kept_from (suc n) used totals

abbrev pub currents_from : ℕ → (ℕ → ℕ) → List ℕ → List ℕ
currents_from n counts [] = []
currents_from n counts (total ∷ totals) = counts n ∷ currents_from (suc n) counts totals

-- 1 where something is missing
abbrev pub missing : Option ℕ → ℕ
missing None = 1
missing (Some place) = 0

-- an account that is there loses nothing again
abbrev pub lost_by : Option (Found Account) → Option ℕ → ℕ
lost_by (Some account) place = 0
lost_by None place = missing place

abbrev pub connected : Containers → ℕ → Connection → Option (Found Account) → Containers
connected a slot x account = record a {
  places = stepped a.places (Connects slot x);
  lost_accounts = a.lost_accounts + lost_by account x.account;
  lost_users = a.lost_users + lost_by account x.user;
  lost_hosts = a.lost_hosts + lost_by account x.host;
  account_totals = added_from 0 x.account a.account_totals;
  user_totals = added_from 0 x.user a.user_totals;
  host_totals = added_from 0 x.host a.host_totals;
}

abbrev pub truncated : Containers → Table → Containers
truncated a (Summary kind level) = a
truncated a Accounts = record a {
  places = stepped a.places FreesAccounts;
  account_totals = currents_from 0 (current (λ x. x.account) a.places.threads) a.account_totals;
}
truncated a Users = record a {
  places = stepped a.places FreesUsers;
  account_totals = totals_kept_from 0 (in_use (λ x. x.account) a.places.threads) a.account_totals;
  user_totals = currents_from 0 (current (λ x. x.user) a.places.threads) a.user_totals;
}
truncated a Hosts = record a {
  places = stepped a.places FreesHosts;
  account_totals = totals_kept_from 0 (in_use (λ x. x.account) a.places.threads) a.account_totals;
  host_totals = currents_from 0 (current (λ x. x.host) a.places.threads) a.host_totals;
}

abbrev pub connect_at : Containers → ℕ → ℕ → ℕ → Option ℕ → Containers
connect_at a number user host None = record a { lost_threads = suc a.lost_threads }
connect_at a number user host (Some slot) =
    connected a slot (session_of a.places number user host) (found_where (is_account user host) a.places.accounts)

-- one action; a quit is of the lowest slot of its session, and nothing where it has none
abbrev pub advanced : Containers → Action → Containers
advanced a (Connect number user host) = connect_at a number user host (lowest_free a.places.threads)
advanced a (Quit number) =
    record a { places = stepped a.places (quit_line (found_where (λ x. x.number == number) a.places.threads)) }
advanced a (Truncate table) = truncated a table
advanced a Other = a

-- the state after so many actions
abbrev pub admin_after : Containers → (ℕ → Action) → ℕ → Containers
admin_after opening action zero = opening
admin_after opening action (suc n) = advanced (admin_after opening action n) (action (suc n))
