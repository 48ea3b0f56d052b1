-- Conservation from what the administration and the stores owe.
use Rattle.std.proofs.Common.{ℕ, ◌^◌, ◌<◌, ◌≤◌, Bool, List, length, Option}
use Rattle.std.specs.Prelude.{nat_lt}
use Rattle.pfs_conservation.specs.RowChains.{Sums, Finds}
use Rattle.pfs_conservation.specs.Removals.{Ascends}
use Rattle.pfs_conservation.specs.RowMoves.{AreMoved, InOrder}
use Rattle.pfs_conservation.specs.Conservation.{AddsOnce, Journals, AreKept, IsConserved}
use Rattle.pfs_conservation.specs.Tenures.{Owner, HasTenants, IsTable}
use Rattle.pfs_conservation.proofs.MergeTotals.{Merges}
use Rattle.pfs_conservation.proofs.ChainOrder.{follows_ascends}
use Rattle.pfs_conservation.proofs.Conservation.{Sized, conserved}
use Rattle.pfs_conservation.proofs.SessionEvents.{tenants_placed, table_is}

-- what a store owes: its chains follow the moves, its takes find what stands there, and each event is counted once
pub record Stores {A : Type 0} (sums : Sums A) (size : A → ℕ) (j : Journals A) : Type 0 where
  pub few : length j.events < 2 ^ 64
  pub flat : (row : ℕ) → j.level row ≤ j.height
  pub moved : AreMoved j.chains (λ action row. nat_lt 0 (size (j.found action row))) j.moves
  pub finds : Finds sums j.chains j.found
  pub once : (row : ℕ) → AddsOnce j.events (j.chains row)

pub whole : {A : Type 0} (s : Sums A) (m : Merges s) (size : A → ℕ) (z : Sized s size) (j : Journals A) → Stores s size j
    → (holder : ℕ → ℕ → Option Owner) (takes : ℕ → ℕ → Bool) (own : ℕ → ℕ → Owner) (connect : ℕ → ℕ) (quit : ℕ → Option ℕ)
    → InOrder j.level j.moves → HasTenants j holder takes own connect quit
    → (end : ℕ) (belongs : ℕ → Owner → Bool) (shown covers : List ℕ) (path : ℕ → List ℕ) (leads : ℕ → Bool) → IsTable j holder takes own connect end belongs shown covers path leads
    → IsConserved s j shown covers leads
whole s m size z j st holder takes own connect quit order has end belongs shown covers path leads table =
    let kept : ℕ → ℕ → Bool = λ action row. nat_lt 0 (size (j.found action row)) in
    let ascends : (row : ℕ) → Ascends 0 (j.chains row) = λ row. follows_ascends j.level kept row j.moves (j.chains row) order (st.moved.is row) in
    let k : AreKept s size j = record { few = st.few; flat = st.flat; order = order; moved = st.moved; finds = st.finds; once = st.once; placed = tenants_placed j kept st.moved ascends holder takes own connect quit has } in
    conserved s m size z j k shown covers path leads (table_is j kept st.moved ascends holder takes own connect quit has end belongs shown covers path leads table)
