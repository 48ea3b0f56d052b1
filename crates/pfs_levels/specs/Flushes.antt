-- What a flush asks for: every cell of a kind at a level, in ascending order, moved up as the level says.
use Rattle.std.specs.Prelude.{ℕ, ◌+◌, ◌<◌, ◌≤◌, List, [], ◌∷◌, map, All, Option, Some, None}
use Rattle.std.specs.List.{flat_map}
use Rattle.pfs_event.specs.declared.kind.EventKind.{EventKind}
use Rattle.pfs_event.specs.declared.kind.EventKind.TheVariants.{Wait, Stage, Statement, Transaction}
use Rattle.pfs_rows.specs.declared.place.Place.TheVariants.{ThreadCell, AccountCell, UserCell, HostCell, GlobalCell}
use Rattle.pfs_rows.specs.Rows.{row_number}
use Rattle.pfs_levels.specs.declared.places.Level.{Level}
use Rattle.pfs_levels.specs.declared.places.Level.TheVariants as levels
use Rattle.pfs_levels.specs.declared.places.Places.{Places}
use Rattle.pfs_levels.specs.declared.places.Up.{Up}
use Rattle.pfs_levels.specs.declared.flushes.Source.{Source}
use Rattle.pfs_levels.specs.declared.flushes.Source.TheVariants as of
use Rattle.pfs_levels.specs.Moves.{Ask, ask, AskIsAway}

-- the cells of a kind
abbrev pub cells_of : Places → EventKind → List ℕ
cells_of p Wait = p.waits
cells_of p Stage = p.stages
cells_of p Statement = p.statements
cells_of p Transaction = p.transactions

-- where a cell goes that has no account: to its user and its host; with a user alone, to the user and the global
-- cell; with a host alone, to the host; with neither, to the global cell
abbrev pub beyond : Option ℕ → Option ℕ → ℕ → List ℕ
beyond (Some user) (Some host) cell = row_number (UserCell user cell) ∷ row_number (HostCell host cell) ∷ []
beyond (Some user) None cell = row_number (UserCell user cell) ∷ row_number (GlobalCell cell) ∷ []
beyond None (Some host) cell = row_number (HostCell host cell) ∷ []
beyond None None cell = row_number (GlobalCell cell) ∷ []

-- where a thread's cell goes: to its account, and else as above
abbrev pub upper : Option ℕ → Option ℕ → Option ℕ → ℕ → List ℕ
upper (Some account) user host cell = row_number (AccountCell account cell) ∷ []
upper None user host cell = beyond user host cell

-- a cell of a thread, an account, a user or a host, and where it goes. A user's is dropped, a host's goes to the
-- global cell
abbrev pub ask_of : Source → ℕ → Ask
ask_of (of.Thread up) cell = ask (row_number (ThreadCell up.place cell)) (upper up.account up.user up.host cell)
ask_of (of.Account up) cell = ask (row_number (AccountCell up.place cell)) (beyond up.user up.host cell)
ask_of (of.User user) cell = ask (row_number (UserCell user cell)) []
ask_of (of.Host host) cell = ask (row_number (HostCell host cell)) (row_number (GlobalCell cell) ∷ [])

-- the places of a level
abbrev pub sources_of : Places → Level → List Source
sources_of p levels.Thread = map of.Thread p.threads
sources_of p levels.Account = map of.Account p.accounts
sources_of p levels.User = map of.User p.users
sources_of p levels.Host = map of.Host p.hosts

abbrev pub asks_of : List ℕ → Source → List Ask
asks_of cells source = map (ask_of source) cells

-- all cells of a kind at a level: place by place, and cell by cell
abbrev pub flushed : Places → EventKind → Level → List Ask
flushed p kind level = flat_map (asks_of (cells_of p kind)) (sources_of p level)

-- a list ascends from a number on, and stays below a limit
abbrev pub Ascends : ℕ → ℕ → List ℕ → Type 0
Ascends low limit [] = Unit {0}
Ascends low limit (x ∷ xs) = (low ≤ x) × ((x < limit) × Ascends (x + 1) limit xs)

abbrev pub place_of_up : Up → ℕ
place_of_up up = up.place

-- the upper places of a thread or an account are places
abbrev pub IsBelow : ℕ → Option ℕ → Type 0
IsBelow limit None = Unit {0}
IsBelow limit (Some n) = n < limit

abbrev pub IsUp : Up → Type 0
IsUp up = (up.place < 32) × IsBelow 32 up.account × IsBelow 32 up.user × IsBelow 32 up.host

abbrev pub IsSource : Source → Type 0
IsSource (of.Thread up) = IsUp up
IsSource (of.Account up) = IsUp up
IsSource (of.User user) = user < 32
IsSource (of.Host host) = host < 32

-- each list ascends and has no place or cell twice, and all numbers are in their ranges
pub record ArePlaces (p : Places) (kind : EventKind) (level : Level) : Type 0 where
  pub cells : Ascends 0 64 (cells_of p kind)
  pub threads : Ascends 0 32 (map place_of_up p.threads)
  pub accounts : Ascends 0 32 (map place_of_up p.accounts)
  pub users : Ascends 0 32 p.users
  pub hosts : Ascends 0 32 p.hosts
  pub sources : All IsSource (sources_of p level)

-- no row that is named is in hand
abbrev pub CellsAreAway : (ℕ → Option ℕ) → List ℕ → Source → Type 0
CellsAreAway hand cells source = All (λ cell. AskIsAway hand (ask_of source cell)) cells

abbrev pub AllAreAway : (ℕ → Option ℕ) → List ℕ → List Source → Type 0
AllAreAway hand cells sources = All (CellsAreAway hand cells) sources

abbrev pub from_of : Ask → ℕ
from_of a = a.from

-- the rows that a flush takes ascend, and none comes twice
abbrev pub FlushesAscend : Type 0
FlushesAscend = (p : Places) (kind : EventKind) (level : Level) → ArePlaces p kind level
    → Ascends 1 14242 (map from_of (flushed p kind level))
