-- Who is connected where: what stands at each thread slot, account, user and host, and what an action does there.
use Rattle.std.specs.Prelude.{ℕ, zero, suc, ◌==◌, ◌||◌, cond, Bool, false, List, [], ◌∷◌, Option, Some, None, unwrap_or}
use Rattle.pfs_containers.specs.declared.containers.Account.{Account}
use Rattle.pfs_containers.specs.declared.containers.Connection.{Connection}

-- the account of a session that has one
abbrev pub entry_of : Connection → Account
entry_of session = record {
  user_name = session.user_name;
  host_name = session.host_name;
  user = session.user;
  host = session.host;
}

-- what stands at each thread slot, account, user and host place; users and hosts by their names
pub record State : Type 0 where
  pub threads : List (Option Connection)
  pub accounts : List (Option Account)
  pub users : List (Option ℕ)
  pub hosts : List (Option ℕ)

pub data Level : Type 0 where
  ByThread : Level
  ByAccount : Level
  ByUser : Level
  ByHost : Level
  ByAll : Level

-- an action as far as one kind of event goes
pub data Line : Type 0 where
  Connects : ℕ → Connection → Line  -- slot and session
  Quits : ℕ → Line
  Truncates : Level → Line
  FreesAccounts : Line
  FreesUsers : Line
  FreesHosts : Line
  Others : Line

-- what stands at a place
abbrev pub entry_at : {X : Type 0} → List (Option X) → ℕ → Option X
entry_at [] n = None
entry_at (x ∷ xs) zero = x
entry_at (x ∷ xs) (suc n) = entry_at xs n

-- a place that is free is filled, any other stays
abbrev pub fill_at : {X : Type 0} → ℕ → X → List (Option X) → List (Option X)
fill_at n new [] = []
fill_at zero new (x ∷ xs) = Some (unwrap_or x new) ∷ xs
fill_at (suc n) new (x ∷ xs) = x ∷ fill_at n new xs

abbrev pub fill : {X : Type 0} → Option ℕ → X → List (Option X) → List (Option X)
fill None new xs = xs
fill (Some n) new xs = fill_at n new xs

abbrev pub emptied_at : {X : Type 0} → ℕ → List (Option X) → List (Option X)
emptied_at n [] = []
emptied_at zero (x ∷ xs) = None ∷ xs
emptied_at (suc n) (x ∷ xs) = x ∷ emptied_at n xs

abbrev pub kept_if : {X : Type 0} → Bool → Option X → Option X
kept_if b old = cond b old None

-- the places from n on that are in use stay, the others are freed
abbrev pub kept_from : {X : Type 0} → ℕ → (ℕ → Bool) → List (Option X) → List (Option X)
kept_from n used [] = []
kept_from n used (x ∷ xs) = kept_if (used n) x ∷ kept_from (suc n) used xs

-- whether a place, where there is one, is this one
abbrev pub is_from : ℕ → Option ℕ → Bool
is_from place None = false
is_from place (Some other) = other == place

-- whether a slot's session has the place
abbrev pub has_by : (Connection → Option ℕ) → ℕ → Option Connection → Bool
has_by which place None = false
has_by which place (Some session) = is_from place (which session)

-- a place has a connection where the session of some slot has the place
abbrev pub in_use : (Connection → Option ℕ) → List (Option Connection) → ℕ → Bool
in_use which [] place = false
in_use which (thread ∷ threads) place = has_by which place thread || in_use which threads place

abbrev pub stepped : State → Line → State
stepped s (Connects slot x) = record {
  threads = fill_at slot x s.threads;
  accounts = fill x.account (entry_of x) s.accounts;
  users = fill x.user x.user_name s.users;
  hosts = fill x.host x.host_name s.hosts;
}
stepped s (Quits slot) = record s { threads = emptied_at slot s.threads }
stepped s FreesAccounts = record s { accounts = kept_from 0 (in_use (λ x. x.account) s.threads) s.accounts }
stepped s FreesUsers = record s {
  accounts = kept_from 0 (in_use (λ x. x.account) s.threads) s.accounts;
  users = kept_from 0 (in_use (λ x. x.user) s.threads) s.users;
}
stepped s FreesHosts = record s {
  accounts = kept_from 0 (in_use (λ x. x.account) s.threads) s.accounts;
  hosts = kept_from 0 (in_use (λ x. x.host) s.threads) s.hosts;
}
stepped s (Truncates level) = s
stepped s Others = s
