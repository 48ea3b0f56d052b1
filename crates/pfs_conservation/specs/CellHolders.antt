-- Which row is whose cell, and who holds it.
use Rattle.std.specs.Prelude.{◌≡◌, ℕ, zero, suc, ◌<◌, ◌≤◌, Bool, true, List, [], ◌∷◌, length, Option, Some, None}
use Rattle.pfs_conservation.specs.Ways.{Rows}
use Rattle.pfs_conservation.specs.Tenures.{Owner}
use Rattle.pfs_conservation.specs.PlaceFolds.{Place, Thread, Account, User, Host, Global, Elsewhere, Session, entry_of, State, line_takes, CellRows, thread_owner, account_owner, user_owner, host_owner, global_owner, holder_in}
use Rattle.pfs_conservation.specs.AdministrationFold.{Action, line_of, state_before}

pub record Seat : Type 0 where
  pub cell : ℕ
  pub place : Place

-- the numbers of the rows: threads below accounts, accounts below users, and so on
pub record Numbering : Type 0 where
  pub is_cell : ℕ → Bool  -- a cell of the kind
  pub row : ℕ → Place → ℕ
  pub seat : ℕ → Seat
  pub accounts : ℕ
  pub users : ℕ
  pub hosts : ℕ
  pub globals : ℕ

abbrev pub IsIn : Place → Type 0
IsIn (Thread t) = t < 32
IsIn (Account a) = a < 32
IsIn (User u) = u < 32
IsIn (Host h) = h < 32
IsIn Global = Unit {0}
IsIn Elsewhere = ⊥

abbrev pub Between : Numbering → Place → ℕ → Type 0
Between n (Thread t) row = row < n.accounts
Between n (Account a) row = (n.accounts ≤ row) × (row < n.users)
Between n (User u) row = (n.users ≤ row) × (row < n.hosts)
Between n (Host h) row = (n.hosts ≤ row) × (row < n.globals)
Between n Global row = n.globals ≤ row
Between n Elsewhere row = ⊥

pub record IsNumbering (n : Numbering) : Type 0 where
  pub seats : (cell : ℕ) (place : Place) → n.is_cell cell ≡ true → IsIn place
      → n.seat (n.row cell place) ≡ record { cell = cell; place = place }
  pub rows : (row : ℕ) → IsIn (n.seat row).place → n.row (n.seat row).cell (n.seat row).place ≡ row
  pub between : (cell : ℕ) (place : Place) → n.is_cell cell ≡ true → IsIn place → Between n place (n.row cell place)
  pub users : n.accounts ≤ n.users
  pub hosts : n.users ≤ n.hosts
  pub globals : n.hosts ≤ n.globals

abbrev pub rows_of : Numbering → ℕ → CellRows
rows_of n cell = record {
  thread = λ t. n.row cell (Thread t);
  account = λ a. n.row cell (Account a);
  user = λ u. n.row cell (User u);
  host = λ h. n.row cell (Host h);
  global = n.row cell Global;
}

abbrev pub place_level : Place → ℕ
place_level (Thread t) = 0
place_level (Account a) = 1
place_level (User u) = 2
place_level (Host h) = 2
place_level Global = 3
place_level Elsewhere = 0

abbrev pub holder_at : Numbering → State → Seat → Option Owner
holder_at n s seat = holder_in (rows_of n seat.cell) s seat.place

-- who holds a row when an action begins, and whether the action takes the row
abbrev pub holder_of : Numbering → State → (ℕ → Action) → ℕ → ℕ → Option Owner
holder_of n opening action number row = holder_at n (state_before opening action number) (n.seat row)

abbrev pub takes_by : Numbering → State → (ℕ → Action) → ℕ → ℕ → ℕ → Bool
takes_by n opening action kind number row =
    line_takes (line_of kind (state_before opening action number) (action number)) (n.seat row).place

-- a session's own rows
abbrev pub own_place : CellRows → Session → Place → Owner
own_place rows x (Thread t) = thread_owner rows x
own_place rows x (Account a) = account_owner rows (entry_of x)
own_place rows x (User u) = user_owner x.user_name
own_place rows x (Host h) = host_owner rows x.host_name
own_place rows x Global = global_owner
own_place rows x Elsewhere = global_owner

abbrev pub own_at : Numbering → Session → Seat → Owner
own_at n x seat = own_place (rows_of n seat.cell) x seat.place

abbrev pub map_row : (ℕ → ℕ) → Option ℕ → Option ℕ
map_row f None = None
map_row f (Some x) = Some (f x)

-- the rows of a session in one cell
abbrev pub way_of : CellRows → ℕ → Session → Rows
way_of rows slot x = record {
  home = rows.thread slot;
  account = map_row rows.account x.account;
  user = map_row rows.user x.user;
  host = map_row rows.host x.host;
  global = rows.global;
}

-- at most 32 places of each
pub record IsSmall (s : State) : Type 0 where
  pub threads : length s.threads ≤ 32
  pub accounts : length s.accounts ≤ 32
  pub users : length s.users ≤ 32
  pub hosts : length s.hosts ≤ 32

-- at first each place is free
abbrev pub all_free : {X : Type 0} → ℕ → List (Option X)
all_free zero = []
all_free (suc n) = None ∷ all_free n

pub record Limits : Type 0 where
  pub threads : ℕ
  pub accounts : ℕ
  pub users : ℕ
  pub hosts : ℕ

abbrev pub opened_by : Limits → State
opened_by limits = record {
  threads = all_free limits.threads;
  accounts = all_free limits.accounts;
  users = all_free limits.users;
  hosts = all_free limits.hosts;
}

pub record AreLimits (limits : Limits) : Type 0 where
  pub threads : limits.threads ≤ 32
  pub accounts : limits.accounts ≤ 32
  pub users : limits.users ≤ 32
  pub hosts : limits.hosts ≤ 32
