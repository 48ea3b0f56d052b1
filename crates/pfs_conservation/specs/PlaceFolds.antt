-- The administration's fold, as far as places go: who holds a row of one cell, and what an action takes.
use Rattle.std.specs.Prelude.{◌≡◌, ℕ, ◌==◌, Bool, true, false, List, [], ◌∷◌, ◌++◌, Option, Some, None, is_some}
use Rattle.pfs_conservation.specs.Tenures.{Owner}
pub use Rattle.pfs_containers.specs.declared.containers.Connection.{Connection as Session}
pub use Rattle.pfs_containers.specs.declared.containers.Account.{Account as Entry}
pub use Rattle.pfs_containers.specs.Connections.{entry_of, State, Level, ByThread, ByAccount, ByUser, ByHost, ByAll, Line, Connects, Quits, Truncates, FreesAccounts, FreesUsers, FreesHosts, Others, entry_at, fill_at, fill, emptied_at, kept_if, kept_from, has_by, in_use, stepped}

-- whose cell a row is
pub data Place : Type 0 where
  Thread : ℕ → Place
  Account : ℕ → Place
  User : ℕ → Place
  Host : ℕ → Place
  Global : Place
  Elsewhere : Place

-- what an action takes, where it is held
abbrev pub level_takes : Level → Place → Bool
level_takes level (Thread t) = true
level_takes ByThread (Account a) = false
level_takes level (Account a) = true
level_takes ByUser (User u) = true
level_takes ByAll (User u) = true
level_takes level (User u) = false
level_takes ByHost (Host h) = true
level_takes ByAll (Host h) = true
level_takes level (Host h) = false
level_takes ByAll Global = true
level_takes level Global = false
level_takes level Elsewhere = false

abbrev pub line_takes : Line → Place → Bool
line_takes (Quits slot) (Thread t) = t == slot
line_takes (Truncates level) place = level_takes level place
line_takes FreesAccounts place = level_takes ByAccount place
line_takes FreesUsers place = level_takes ByUser place
line_takes FreesHosts place = level_takes ByHost place
line_takes line place = false

-- the rows of one cell
pub record CellRows : Type 0 where
  pub thread : ℕ → ℕ
  pub account : ℕ → ℕ
  pub user : ℕ → ℕ
  pub host : ℕ → ℕ
  pub global : ℕ

abbrev pub row_at : (ℕ → ℕ) → Option ℕ → List ℕ
row_at row None = []
row_at row (Some place) = row place ∷ []

abbrev pub host_or_global : CellRows → Option ℕ → List ℕ
host_or_global rows None = rows.global ∷ []
host_or_global rows (Some host) = rows.host host ∷ []

-- where an account's row goes, and a thread's without an account
abbrev pub ups : CellRows → Option ℕ → Option ℕ → List ℕ
ups rows user host = row_at rows.user user ++ host_or_global rows host

abbrev pub thread_ups : CellRows → Session → List ℕ
thread_ups rows session = first session.account
  where
    first : Option ℕ → List ℕ
    first (Some account) = rows.account account ∷ []
    first None = ups rows session.user session.host

-- who holds a row
abbrev pub thread_owner : CellRows → Session → Owner
thread_owner rows x = record {
  number = x.number;
  user_name = x.user_name;
  host_name = x.host_name;
  has_account = is_some x.account;
  has_user = is_some x.user;
  has_host = is_some x.host;
  nexts = thread_ups rows x;
}

abbrev pub account_owner : CellRows → Entry → Owner
account_owner rows x = record {
  number = 0;
  user_name = x.user_name;
  host_name = x.host_name;
  has_account = true;
  has_user = is_some x.user;
  has_host = is_some x.host;
  nexts = ups rows x.user x.host;
}

abbrev pub user_owner : ℕ → Owner
user_owner name = record {
  number = 0;
  user_name = name;
  host_name = 0;
  has_account = false;
  has_user = true;
  has_host = false;
  nexts = [];
}

abbrev pub host_owner : CellRows → ℕ → Owner
host_owner rows name = record {
  number = 0;
  user_name = 0;
  host_name = name;
  has_account = false;
  has_user = false;
  has_host = true;
  nexts = rows.global ∷ [];
}

abbrev pub global_owner : Owner
global_owner = record {
  number = 0;
  user_name = 0;
  host_name = 0;
  has_account = false;
  has_user = false;
  has_host = false;
  nexts = [];
}

abbrev pub owner_of : {X : Type 0} → (X → Owner) → Option X → Option Owner
owner_of make None = None
owner_of make (Some x) = Some (make x)

abbrev pub holder_in : CellRows → State → Place → Option Owner
holder_in rows s (Thread t) = owner_of (thread_owner rows) (entry_at s.threads t)
holder_in rows s (Account a) = owner_of (account_owner rows) (entry_at s.accounts a)
holder_in rows s (User u) = owner_of user_owner (entry_at s.users u)
holder_in rows s (Host h) = owner_of (host_owner rows) (entry_at s.hosts h)
holder_in rows s Global = Some global_owner
holder_in rows s Elsewhere = None

-- whether a line is the quit of this slot
abbrev pub quits : ℕ → Line → Bool
quits slot (Quits other) = slot == other
quits slot line = false

-- a connected session with its entries
pub record Lives (s : State) (slot : ℕ) (session : Session) : Type 0 where
  pub thread : entry_at s.threads slot ≡ Some session
  pub account : (a : ℕ) → session.account ≡ Some a → entry_at s.accounts a ≡ Some (entry_of session)
  pub user : (u : ℕ) → session.user ≡ Some u → entry_at s.users u ≡ Some session.user_name
  pub host : (h : ℕ) → session.host ≡ Some h → entry_at s.hosts h ≡ Some session.host_name
