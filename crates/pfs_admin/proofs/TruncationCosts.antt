-- What a truncation costs at most, and that this is few.
use Rattle.std.proofs.Common.{ℕ, zero, suc, ◌≡◌, ◌≤◌, ◌+◌, ◌*◌, Bool, true, false, List, [], ◌∷◌, ◌++◌, length, map, Option, Some, None, refl, sym, arith}
use Rattle.std.specs.Option.{option_map}
use Rattle.std.specs.List.{slice_index_or}
use Rattle.std.proofs.Math.Nat.{mul-suc, mul-zero, suc-mul}
use Rattle.pfs_lemmas.proofs.Bools.{cond_at_most_one}
use Rattle.pfs_containers.specs.declared.containers.Account.{Account}
use Rattle.pfs_containers.specs.declared.containers.Connection.{Connection}
use Rattle.pfs_containers.specs.Connections.{State as Places}
use Rattle.pfs_levels.specs.declared.flushes.Source.{Source}
use Rattle.pfs_levels.specs.declared.flushes.Source.TheVariants as of
use Rattle.pfs_levels.specs.declared.places.Level.{Level}
use Rattle.pfs_levels.specs.declared.places.Level.TheVariants as levels
use Rattle.pfs_levels.specs.Flushes.{ask_of, asks_of, beyond, upper}
use Rattle.pfs_levels.specs.Moves.{Ask, ask, cost}
use Rattle.pfs_levels.proofs.FlushSteps.{cost_then}
use Rattle.pfs_rows.specs.declared.place.Place.TheVariants.{GlobalCell}
use Rattle.pfs_rows.specs.declared.table.SummaryTable.{SummaryTable}
use Rattle.pfs_rows.specs.Rows.{row_number}
use Rattle.pfs_admin.specs.declared.summaries.Reach.{Reach}
use Rattle.pfs_admin.specs.AdministrationStates.{KindCells}
use Rattle.pfs_rows.specs.declared.truncations.Truncation.{Truncation}
use Rattle.pfs_rows.specs.declared.truncations.Truncation.TheVariants.{Events, Summary, DigestSummary, Accounts, Users, Hosts, SetupActors, SetupObjects}
use Rattle.pfs_admin.specs.WordChanges.{up_to}
use Rattle.pfs_admin.specs.Truncations.{moves_bound, signs_bound, count_up_to, thread_source, account_source, user_source, host_source, place_asks, asks_at, level_asks, emptied, cleared, digest_ask, digest_asks, lower_asks, upper_asks, reach_asks, summary_asks, all_asks}

-- each cell costs as much
pub cells_cost : (source : Source) (each : ℕ) (cells : List ℕ) → ((cell : ℕ) → each ≡ 1 + length (ask_of source cell).to)
    → each * length cells ≡ cost (asks_of cells source)
cells_cost source each [] is = omega (arith, mul-zero each)
cells_cost source each (cell ∷ cells) is = omega (arith, mul-suc each (length cells), is cell, cells_cost source each cells is)

-- at most three for a cell of a thread or an account, one of a user, two of a host
abbrev weight : Level → ℕ
weight levels.Thread = 3
weight levels.Account = 3
weight levels.User = 1
weight levels.Host = 2

beyond_few : (user host : Option ℕ) (cell : ℕ) → length (beyond user host cell) ≤ 2
beyond_few (Some user) (Some host) cell = omega arith
beyond_few (Some user) None cell = omega arith
beyond_few None (Some host) cell = omega arith
beyond_few None None cell = omega arith

upper_few : (account user host : Option ℕ) (cell : ℕ) → length (upper account user host cell) ≤ 2
upper_few (Some account) user host cell = omega arith
upper_few None user host cell = beyond_few user host cell

thread_few : (place : ℕ) (account user host : Option ℕ) (cells : List ℕ)
    → cost (asks_of cells (of.Thread (record { place = place; account = account; user = user; host = host }))) ≤ 3 * length cells
thread_few place account user host [] = omega arith
thread_few place account user host (cell ∷ cells) = omega (arith, upper_few account user host cell, thread_few place account user host cells)

account_few : (place : ℕ) (account user host : Option ℕ) (cells : List ℕ)
    → cost (asks_of cells (of.Account (record { place = place; account = account; user = user; host = host }))) ≤ 3 * length cells
account_few place account user host [] = omega arith
account_few place account user host (cell ∷ cells) = omega (arith, beyond_few user host cell, account_few place account user host cells)

user_few : (place : ℕ) (cells : List ℕ) → cost (asks_of cells (of.User place)) ≤ length cells
user_few place [] = omega arith
user_few place (cell ∷ cells) = omega (arith, user_few place cells)

host_few : (place : ℕ) (cells : List ℕ) → cost (asks_of cells (of.Host place)) ≤ 2 * length cells
host_few place [] = omega arith
host_few place (cell ∷ cells) = omega (arith, host_few place cells)

place_few : (s : Places) (cells : List ℕ) (level : Level) (place : ℕ) → cost (asks_at s cells level place) ≤ weight level * length cells
place_few s cells levels.Thread place = at (slice_index_or s.threads place None) where
  at : (x : Option Connection) → cost (place_asks cells (option_map (thread_source place) x)) ≤ 3 * length cells
  at None = omega arith
  at (Some x) = thread_few place x.account x.user x.host cells
place_few s cells levels.Account place = at (slice_index_or s.accounts place None) where
  at : (x : Option Account) → cost (place_asks cells (option_map (account_source place) x)) ≤ 3 * length cells
  at None = omega arith
  at (Some x) = account_few place None x.user x.host cells
place_few s cells levels.User place = at (slice_index_or s.users place None) where
  at : (x : Option ℕ) → cost (place_asks cells (option_map (user_source place) x)) ≤ 1 * length cells
  at None = omega arith
  at (Some x) = omega (arith, user_few place cells)
place_few s cells levels.Host place = at (slice_index_or s.hosts place None) where
  at : (x : Option ℕ) → cost (place_asks cells (option_map (host_source place) x)) ≤ 2 * length cells
  at None = omega arith
  at (Some x) = host_few place cells

up_few : (f : ℕ → List Ask) (most n : ℕ) → ((k : ℕ) → cost (f k) ≤ most) → cost (up_to f n) ≤ n * most
up_few f most zero few = omega arith
up_few f most (suc n) few = omega (arith, cost_then (up_to f n) (f n), few n, up_few f most n few, suc-mul n most)

pub level_few : (s : Places) (cells : List ℕ) (level : Level) → cost (level_asks s cells level) ≤ 32 * (weight level * length cells)
unfolding level_asks
level_few s cells level = up_few (asks_at s cells level) (weight level * length cells) 32 (place_few s cells level)

emptied_few : (due : Bool) (s : Places) (cells : List ℕ) (level : Level) → cost (emptied due s cells level) ≤ 32 * (weight level * length cells)
emptied_few true s cells level = level_few s cells level
emptied_few false s cells level = omega arith

clear_few : (cells : List ℕ) → cost (map (λ cell. ask (row_number (GlobalCell cell)) []) cells) ≡ length cells
clear_few [] = refl
clear_few (cell ∷ cells) = omega (arith, clear_few cells)

cleared_few : (due : Bool) (cells : List ℕ) → cost (cleared due cells) ≤ length cells
cleared_few true cells = omega (arith, clear_few cells)
cleared_few false cells = omega arith

pub reach_cost : (s : Places) (reach : Reach) (cells : List ℕ) → cost (reach_asks s reach cells)
    ≡ (cost (level_asks s cells levels.Thread) + cost (emptied reach.accounts s cells levels.Account))
    + (cost (emptied reach.users s cells levels.User) + (cost (emptied reach.hosts s cells levels.Host) + cost (cleared reach.global cells)))
reach_cost s reach cells =
    omega (
      arith,
      cost_then (lower_asks s reach cells) (upper_asks s reach cells),
      cost_then (level_asks s cells levels.Thread) (emptied reach.accounts s cells levels.Account),
      cost_then (emptied reach.users s cells levels.User) (emptied reach.hosts s cells levels.Host ++ cleared reach.global cells),
      cost_then (emptied reach.hosts s cells levels.Host) (cleared reach.global cells),
    )

-- the parts of what a summary costs are few
pub record AreFew (s : Places) (reach : Reach) (cells : List ℕ) : Type 0 where
  pub threads : cost (level_asks s cells levels.Thread) ≤ 96 * length cells
  pub accounts : cost (emptied reach.accounts s cells levels.Account) ≤ 96 * length cells
  pub users : cost (emptied reach.users s cells levels.User) ≤ 32 * length cells
  pub hosts : cost (emptied reach.hosts s cells levels.Host) ≤ 64 * length cells
  pub global : cost (cleared reach.global cells) ≤ length cells

pub are_few : (s : Places) (reach : Reach) (cells : List ℕ) → AreFew s reach cells
are_few s reach cells = record {
  threads = omega (arith, level_few s cells levels.Thread);
  accounts = omega (arith, emptied_few reach.accounts s cells levels.Account);
  users = omega (arith, emptied_few reach.users s cells levels.User);
  hosts = omega (arith, emptied_few reach.hosts s cells levels.Host);
  global = cleared_few reach.global cells;
}

pub all_cost : (s : Places) (table : SummaryTable) (kinds : KindCells) → cost (all_asks kinds s table)
    ≡ cost (summary_asks s table kinds.waits) + (cost (summary_asks s table kinds.stages)
    + (cost (summary_asks s table kinds.statements) + cost (summary_asks s table kinds.transactions)))
all_cost s table kinds =
    omega (
      arith,
      cost_then (summary_asks s table kinds.waits) (summary_asks s table kinds.stages ++ (summary_asks s table kinds.statements ++ summary_asks s table kinds.transactions)),
      cost_then (summary_asks s table kinds.stages) (summary_asks s table kinds.statements ++ summary_asks s table kinds.transactions),
      cost_then (summary_asks s table kinds.statements) (summary_asks s table kinds.transactions),
    )

pub count_few : (test : ℕ → Bool) (n : ℕ) → count_up_to test n ≤ n
count_few test zero = omega arith
count_few test (suc n) = omega (arith, cond_at_most_one (test n), count_few test n)

pub level_most : (s : Places) (cells : List ℕ) (level : Level) → cost (level_asks s cells level) ≤ 96 * length cells
level_most s cells levels.Thread = omega (arith, level_few s cells levels.Thread)
level_most s cells levels.Account = omega (arith, level_few s cells levels.Account)
level_most s cells levels.User = omega (arith, level_few s cells levels.User)
level_most s cells levels.Host = omega (arith, level_few s cells levels.Host)

pub cleared_cost : (due : Bool) (cells : List ℕ) → due ≡ true → length cells ≡ cost (cleared due cells)
cleared_cost true cells e = sym (clear_few cells)
cleared_cost false cells e = absurd (cc)

-- each row of a digest costs its take
digests_up : (n : ℕ) → cost (up_to digest_ask n) ≡ n
digests_up zero = refl
digests_up (suc n) = omega (arith, cost_then (up_to digest_ask n) (digest_ask n), digests_up n)

pub digests_cost : (places : ℕ) → places + 1 ≡ cost (digest_asks places)
unfolding digest_asks
digests_cost places = sym (digests_up (places + 1))

-- no truncation has both many moves and many rows
pub few_together : (what : Truncation) → moves_bound what + signs_bound what ≤ 19138
few_together (Events kind table) = omega arith
few_together (Summary kind table) = omega arith
few_together DigestSummary = omega arith
few_together Accounts = omega arith
few_together Users = omega arith
few_together Hosts = omega arith
few_together SetupActors = omega arith
few_together SetupObjects = omega arith
