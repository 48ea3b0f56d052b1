-- The digest summary: rows that one action clears together, and that give nothing.
use Rattle.std.specs.Prelude.{ℕ, ◌==◌, ◌&&◌, nat_lt, Bool, List, [], count_by, Option, Some}
use Rattle.pfs_conservation.specs.RowChains.{Change}
use Rattle.pfs_conservation.specs.Tenures.{Owner}
use Rattle.pfs_conservation.specs.PlaceFolds.{global_owner}
use Rattle.pfs_conservation.specs.ActionMoves.{moves_to}
use Rattle.pfs_conservation.specs.Conservation.{Journals}

abbrev pub held : ℕ → ℕ → Option Owner
held action row = Some global_owner

-- the actions that clear the table take each of its rows
abbrev pub clears : (ℕ → Bool) → List ℕ → ℕ → ℕ → Bool
clears cleared rows action row = cleared action && nat_lt 0 (count_by (λ r. r == row) rows)

abbrev pub digests_of : {A : Type 0} → (ℕ → Bool) → List ℕ → ℕ → List ℕ → (ℕ → List Change) → (ℕ → ℕ → A) → (ℕ → ℕ)
    → Journals A
digests_of cleared rows last events chains found home = record {
  events = events;
  chains = chains;
  moves = moves_to held (clears cleared rows) rows last;
  found = found;
  level = λ row. 0;
  height = 0;
  home = home;
  steps = λ event. [];
}
