-- What a caller sees: the containers, and how many connects there were, which bounds every counter.
use Rattle.std.specs.Prelude.{ℕ, ◌≡◌, ◌≤◌, ◌<◌, ◌+◌, Bool, false, List, [], ◌∷◌, Option, Some, None, IfSome, length, replicate}
use Rattle.std.specs.List.{slice_index_or}
use Rattle.pfs_rows.specs.declared.limits.Limits.{Limits}
use Rattle.pfs_containers.specs.declared.containers.Account.{Account}
use Rattle.pfs_containers.specs.declared.containers.Connection.{Connection}
use Rattle.pfs_containers.specs.declared.containers.Lost.{Lost}
use Rattle.pfs_containers.specs.declared.containers.Seated.{Seated}
use Rattle.pfs_containers.specs.Connections.{State}
use Rattle.pfs_containers.specs.Administration.{Containers, Found, lowest_free, session_of, lost_by, Table, advanced, current, Connect, Quit, Truncate}

pub record Kept : Type 0 where
  pub now : Containers
  pub connects : ℕ

-- at first each place is free, and nothing is counted
abbrev pub opening_places : Limits → State
opening_places limits = record {
  threads = replicate limits.thread_instances None;
  accounts = replicate limits.accounts None;
  users = replicate limits.users None;
  hosts = replicate limits.hosts None;
}

abbrev pub opening : Limits → Kept
opening limits = record {
  now = record {
    places = opening_places limits;
    lost_threads = 0;
    lost_accounts = 0;
    lost_users = 0;
    lost_hosts = 0;
    account_totals = replicate limits.accounts 0;
    user_totals = replicate limits.users 0;
    host_totals = replicate limits.hosts 0;
  };
  connects = 0;
}

-- a session connects, with these names; a session ends
abbrev pub with_connect : Kept → ℕ → ℕ → ℕ → Kept
with_connect k number user host = record {
  now = advanced k.now (Connect number user host);
  connects = k.connects + 1;
}

abbrev pub with_quit : Kept → ℕ → Kept
with_quit k number = record k { now = advanced k.now (Quit number) }

-- a table is truncated
abbrev pub with_truncation : Kept → Table → Kept
with_truncation k table = record k { now = advanced k.now (Truncate table) }

-- the slot that a connect takes, and the session as it stands there
abbrev pub seat_by : Containers → ℕ → ℕ → ℕ → Option ℕ → Option Seated
seat_by c number user host None = None
seat_by c number user host (Some slot) =
    Some (record { slot = slot; connection = session_of c.places number user host })

abbrev pub seat_of : Containers → ℕ → ℕ → ℕ → Option Seated
seat_of c number user host = seat_by c number user host (lowest_free c.places.threads)

-- a session that was found in a slot, and the slot
abbrev pub seated : Option (Found Connection) → Option Seated
seated None = None
seated (Some found) = Some (record { slot = found.place; connection = found.entry })

-- no number is above a bound
abbrev pub AreUpTo : ℕ → List ℕ → Type 0
AreUpTo most [] = Unit {0}
AreUpTo most (n ∷ ns) = (n ≤ most) × AreUpTo most ns

-- what stands at a place passes a test
abbrev pub is_met : {X : Type 0} → (X → Bool) → Option X → Bool
is_met test None = false
is_met test (Some x) = test x

-- a place and what stands there, as a pair
abbrev pub as_found : {X : Type 0} → Option (ℕ × X) → Option (Found X)
as_found None = None
as_found (Some pair) = Some (record { place = pair.0; entry = pair.1 })

-- each entry that stands in a list
abbrev pub AllEntries : {X : Type 0} → (X → Type 0) → List (Option X) → Type 0
AllEntries P [] = Unit {0}
AllEntries P (None ∷ xs) = AllEntries P xs
AllEntries P (Some x ∷ xs) = P x × AllEntries P xs

-- the places that a session or an account has are there: so many accounts, users and hosts there are
pub record HasPlaces (accounts users hosts : ℕ) (x : Connection) : Type 0 where
  pub account : IfSome x.account (λ place. place < accounts)
  pub user : IfSome x.user (λ place. place < users)
  pub host : IfSome x.host (λ place. place < hosts)

pub record HasUppers (users hosts : ℕ) (x : Account) : Type 0 where
  pub user : IfSome x.user (λ place. place < users)
  pub host : IfSome x.host (λ place. place < hosts)

abbrev pub IsSeated : State → Connection → Type 0
IsSeated s x = HasPlaces (length s.accounts) (length s.users) (length s.hosts) x

-- the slot and the places of a session are numbers below 32
pub record IsInRange (seat : Seated) : Type 0 where
  pub slot : seat.slot < 32
  pub places : HasPlaces 32 32 32 seat.connection

-- at most 32 places of a kind, and no place that isn't there
pub record AreWell (s : State) : Type 0 where
  pub threads_few : length s.threads ≤ 32
  pub accounts_few : length s.accounts ≤ 32
  pub users_few : length s.users ≤ 32
  pub hosts_few : length s.hosts ≤ 32
  pub connections : AllEntries (IsSeated s) s.threads
  pub accounts : AllEntries (HasUppers (length s.users) (length s.hosts)) s.accounts

-- no place has more connections now than it has had
abbrev pub AreWithin : (Connection → Option ℕ) → List (Option Connection) → List ℕ → Type 0
AreWithin which threads totals = (place : ℕ) → current which threads place ≤ slice_index_or totals place 0

-- what always holds of the counters: a number for each place, none above the number of connects, and none below the
-- connections that its place has
pub record AreCounted (k : Kept) : Type 0 where
  pub account_numbers : length k.now.account_totals ≡ length k.now.places.accounts
  pub user_numbers : length k.now.user_totals ≡ length k.now.places.users
  pub host_numbers : length k.now.host_totals ≡ length k.now.places.hosts
  pub lost_threads : k.now.lost_threads ≤ k.connects
  pub lost_accounts : k.now.lost_accounts ≤ k.connects
  pub lost_users : k.now.lost_users ≤ k.connects
  pub lost_hosts : k.now.lost_hosts ≤ k.connects
  pub account_totals : AreUpTo k.connects k.now.account_totals
  pub user_totals : AreUpTo k.connects k.now.user_totals
  pub host_totals : AreUpTo k.connects k.now.host_totals
  pub accounts_within : AreWithin (λ x. x.account) k.now.places.threads k.now.account_totals
  pub users_within : AreWithin (λ x. x.user) k.now.places.threads k.now.user_totals
  pub hosts_within : AreWithin (λ x. x.host) k.now.places.threads k.now.host_totals

-- what was lost so far, and what is, with a session that found this account or none
abbrev pub lost_in : Containers → Lost
lost_in c = record {
  threads = c.lost_threads;
  accounts = c.lost_accounts;
  users = c.lost_users;
  hosts = c.lost_hosts;
}

abbrev pub with_lost : Lost → Option (Found Account) → Connection → Lost
with_lost lost account x = record lost {
  accounts = lost.accounts + lost_by account x.account;
  users = lost.users + lost_by account x.user;
  hosts = lost.hosts + lost_by account x.host;
}
