-- The five summaries of a kind: which rows a key shows, which events lead to it, and which actions cover it.
use Rattle.std.specs.Prelude.{◌≡◌, ℕ, zero, suc, ◌==◌, ◌&&◌, nat_lt, cond, Bool, true, false, List, [], ◌∷◌, ◌++◌, count_by, Option, Some, None, is_some}
use Rattle.pfs_conservation.specs.Ways.{Step, steps_of}
use Rattle.pfs_conservation.specs.Tenures.{Owner}
use Rattle.pfs_conservation.specs.PlaceFolds.{Place, Thread, Account, User, Host, Global, Elsewhere, Session, State, Level, ByThread, ByAccount, ByUser, ByHost, ByAll, line_takes, CellRows, thread_owner, account_owner, user_owner, host_owner, global_owner}
use Rattle.pfs_conservation.specs.AdministrationFold.{Action, Truncate, Summary, Accounts, Users, Hosts, line_of, state_before}
use Rattle.pfs_conservation.specs.CellHolders.{Numbering, rows_of, own_at, map_row, way_of}

-- a key of one of the five summaries; a thread's with its slot
pub data Key : Type 0 where
  KeyThread : ℕ → ℕ → Key
  KeyAccount : ℕ → ℕ → Key
  KeyUser : ℕ → Key
  KeyHost : ℕ → Key
  KeyAll : Key

-- whether who holds a row has the key
abbrev pub matches : Key → Owner → Bool
matches (KeyThread number slot) o = o.number == number
matches (KeyAccount user host) o = o.has_account && ((o.user_name == user) && (o.host_name == host))
matches (KeyUser user) o = o.has_user && (o.user_name == user)
matches (KeyHost host) o = o.has_host && (o.host_name == host)
matches KeyAll o = true

-- which levels a key shows beside the threads
pub record Shown : Type 0 where
  pub accounts : Bool
  pub users : Bool
  pub hosts : Bool
  pub global : Bool

abbrev pub shown_by : Key → Shown
shown_by (KeyThread number slot) = record { accounts = false; users = false; hosts = false; global = false }
shown_by (KeyAccount user host) = record { accounts = true; users = false; hosts = false; global = false }
shown_by (KeyUser user) = record { accounts = true; users = true; hosts = false; global = false }
shown_by (KeyHost host) = record { accounts = true; users = false; hosts = true; global = false }
shown_by KeyAll = record { accounts = true; users = false; hosts = true; global = true }

abbrev pub shows_at : Key → Place → Bool
shows_at key (Thread t) = true
shows_at key (Account a) = (shown_by key).accounts
shows_at key (User u) = (shown_by key).users
shows_at key (Host h) = (shown_by key).hosts
shows_at key Global = (shown_by key).global
shows_at key Elsewhere = false

abbrev pub passes : {X : Type 0} → (X → Bool) → Option X → Bool
passes test None = false
passes test (Some x) = test x

-- the rows of the places from n on whose entries pass the test
abbrev pub listed_from : {X : Type 0} → (X → Bool) → (ℕ → ℕ) → ℕ → List (Option X) → List ℕ
listed_from test row n [] = []
listed_from test row n (x ∷ xs) = cond (passes test x) (row n ∷ []) [] ++ listed_from test row (suc n) xs

-- the rows of one cell that a key shows: of the threads, accounts, users and hosts that have the key, at its levels
abbrev pub shown_cell : Key → CellRows → State → List ℕ
shown_cell key rows s =
    listed_from (λ x. matches key (thread_owner rows x)) rows.thread 0 s.threads
    ++ (cond (shown_by key).accounts (listed_from (λ x. matches key (account_owner rows x)) rows.account 0 s.accounts)
    []
    ++ (cond (shown_by key).users (listed_from (λ x. matches key (user_owner x)) rows.user 0 s.users) []
    ++ (cond (shown_by key).hosts (listed_from (λ x. matches key (host_owner rows x)) rows.host 0 s.hosts) []
    ++ cond (shown_by key).global (rows.global ∷ []) [])))

-- and of all cells of a class
abbrev pub shown_in : Numbering → Key → List ℕ → State → List ℕ
shown_in n key [] s = []
shown_in n key (cell ∷ cells) s = shown_cell key (rows_of n cell) s ++ shown_in n key cells s

abbrev pub is_of : List ℕ → ℕ → Bool
is_of cells cell = nat_lt 0 (count_by (λ c. c == cell) cells)

-- a row belongs to a key by who holds it
abbrev pub belongs_to : Numbering → Key → List ℕ → ℕ → Owner → Bool
belongs_to n key cells row owner =
    is_of cells (n.seat row).cell && (shows_at key (n.seat row).place && matches key owner)

-- whose an event is: of a session at a slot, that an action connected and another may have disconnected; or aside
pub data Whose : Type 0 where
  OfSession : ℕ → ℕ → Session → ℕ → Option ℕ → Whose  -- cell, slot, session, its connect, its quit
  Aside : ℕ → Whose

abbrev pub home_at : Numbering → Whose → ℕ
home_at n (OfSession cell slot x connect quit) = n.row cell (Thread slot)
home_at n (Aside cell) = n.row cell Global

abbrev pub steps_at : Numbering → Whose → List Step
steps_at n (OfSession cell slot x connect quit) = steps_of (way_of (rows_of n cell) slot x)
steps_at n (Aside cell) = []

abbrev pub own_by : Numbering → Whose → ℕ → Owner
own_by n (OfSession cell slot x connect quit) row = own_at n x (n.seat row)
own_by n (Aside cell) row = global_owner

abbrev pub connect_of : Whose → ℕ
connect_of (OfSession cell slot x connect quit) = connect
connect_of (Aside cell) = 0

abbrev pub quit_of : Whose → Option ℕ
quit_of (OfSession cell slot x connect quit) = quit
quit_of (Aside cell) = None

-- an event leads to a key
abbrev pub leads_key : Key → Session → Bool
leads_key (KeyThread number slot) x = x.number == number
leads_key (KeyAccount user host) x = is_some x.account && ((x.user_name == user) && (x.host_name == host))
leads_key (KeyUser user) x = is_some x.user && (x.user_name == user)
leads_key (KeyHost host) x = is_some x.host && (x.host_name == host)
leads_key KeyAll x = true

abbrev pub is_all : Key → Bool
is_all KeyAll = true
is_all key = false

abbrev pub leads_at : Key → List ℕ → Whose → Bool
leads_at key cells (OfSession cell slot x connect quit) = is_of cells cell && leads_key key x
leads_at key cells (Aside cell) = is_of cells cell && is_all key

-- the rows above its home that are shown with it
abbrev pub opt_row : Option ℕ → List ℕ
opt_row None = []
opt_row (Some row) = row ∷ []

abbrev pub path_in : Shown → Option ℕ → Option ℕ → Option ℕ → ℕ → List ℕ
path_in shown account user host global =
    cond shown.accounts (opt_row account) []
    ++ (cond shown.users (opt_row user) []
    ++ (cond shown.hosts (opt_row host) [] ++ cond shown.global (global ∷ []) []))

abbrev pub path_at : Numbering → Key → Whose → List ℕ
path_at n key (OfSession cell slot x connect quit) =
    path_in (shown_by key) (map_row (rows_of n cell).account x.account) (map_row (rows_of n cell).user x.user)
    (map_row (rows_of n cell).host x.host) (n.row cell Global)
path_at n key (Aside cell) = []

-- the table of covering actions: a summary's own TRUNCATE, and those that empty it besides
abbrev pub level_covers : Key → Level → Bool
level_covers (KeyThread number slot) level = true
level_covers (KeyAccount user host) ByThread = false
level_covers (KeyAccount user host) level = true
level_covers (KeyUser user) ByUser = true
level_covers (KeyUser user) ByAll = true
level_covers (KeyUser user) level = false
level_covers (KeyHost host) ByHost = true
level_covers (KeyHost host) ByAll = true
level_covers (KeyHost host) level = false
level_covers KeyAll ByAll = true
level_covers KeyAll level = false

abbrev pub covers_key : ℕ → Key → Action → Bool
covers_key kind key (Truncate (Summary number level)) = (number == kind) && level_covers key level
covers_key kind key (Truncate Accounts) = level_covers key ByAccount
covers_key kind key (Truncate Users) = level_covers key ByUser
covers_key kind key (Truncate Hosts) = level_covers key ByHost
covers_key kind key action = false

-- by thread every action covers that takes the thread's cells; else those of the table
abbrev pub covers_at : ℕ → Key → State → Action → Bool
covers_at kind (KeyThread number slot) s action = line_takes (line_of kind s action) (Thread slot)
covers_at kind key s action = covers_key kind key action

-- the numbers from 1 to n that pass, the greatest first
abbrev pub those_to : (ℕ → Bool) → ℕ → List ℕ
those_to test zero = []
those_to test (suc n) = cond (test (suc n)) (suc n ∷ []) [] ++ those_to test n

abbrev pub covers_to : ℕ → Key → State → (ℕ → Action) → ℕ → List ℕ
covers_to kind key opening action last =
    those_to (λ t. covers_at kind key (state_before opening action t) (action t)) last

-- the cells of a class
abbrev pub AreLow : Numbering → List ℕ → Type 0
AreLow n [] = Unit {0}
AreLow n (cell ∷ cells) = (n.is_cell cell ≡ true) × AreLow n cells

abbrev pub home_cell : Whose → ℕ
home_cell (OfSession cell slot x connect quit) = cell
home_cell (Aside cell) = cell
