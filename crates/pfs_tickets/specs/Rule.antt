-- The rule of the tickets, which holds between any two steps.
use Rattle.std.specs.Prelude.{◌≡◌, ◌≢◌, ℕ, ◌<◌, ◌≤◌, true, List, length, slice_index}
use mathlib.Core.Option.{some}
use lib.ListN.{get_elem?}
use Rattle.atomic_table.specs.Table.{State}
use Rattle.pfs_tickets.specs.declared.view.Drawn.{Drawn}
use Rattle.pfs_tickets.specs.declared.view.View.{View}
use Rattle.pfs_tickets.specs.History.{Each, total, count_of, times, IsRising}
use Rattle.pfs_tickets.specs.Knowledge.{all_draws, stake}

-- of the number of each ticket's drawer
abbrev pub Makers : (ℕ → Type 0) → View → Type 0
Makers P v = Each (λ (x : Drawn). P x.by) v.tickets

-- A seat's tickets are below their kind's word, and rise. Those of a seat but the root are its own
pub record Fits (words : List ℕ) (v : View) : Type 0 where
  pub kinds : Each (λ (x : Drawn). x.kind < 4) v.tickets
  pub below : Each (λ (x : Drawn). x.ticket < slice_index words x.kind) v.tickets
  pub rising : IsRising v.tickets
  pub own : v.number ≢ 0 → Makers (λ n. n ≡ v.number) v

-- The root has number 0, each other seat a number of its own, and the root has no ticket of a seat that is still out
pub record Numbers (views : List View) : Type 0 where
  pub root : View
  pub at_root : get_elem? views 0 ≡ some root
  pub lives : root.live ≡ true
  pub first : root.number ≡ 0
  pub apart : (i j : ℕ) (u w : View) → get_elem? views i ≡ some u → get_elem? views j ≡ some w → u.live ≡ true
      → w.live ≡ true → u.number ≡ w.number → i ≡ j
  pub counted : (j : ℕ) (u : View) → get_elem? views j ≡ some u → u.live ≡ true → u.number ≤ root.seats
  pub strangers : (j : ℕ) (u : View) → get_elem? views j ≡ some u → u.live ≡ true → u.number ≢ 0
      → Makers (λ n. n ≢ u.number) root
  pub makers : Makers (λ n. n ≤ root.seats) root

module _ (words : List ℕ) (views : List View) where
  -- A kind's word is how many tickets of it all seats have. Each below it is one seat's, once, and none is from it on
  pub record IsKind (k : ℕ) : Type 0 where
    pub counts : total (λ (v : View). count_of k v.tickets) views ≡ slice_index words k
    pub once : (t : ℕ) → t < slice_index words k → total (λ (v : View). times k t v.tickets) views ≡ 1
    pub never : (t : ℕ) → slice_index words k ≤ t → total (λ (v : View). times k t v.tickets) views ≡ 0

module _ {S : Type 0} where
  -- the draws left of all seats and the tickets drawn add up to all draws
  pub record Ruled (s : State S View) : Type 0 where
    pub wide : length s.words ≡ 4
    pub kinds : (k : ℕ) → k < 4 → IsKind s.words s.views k
    pub paid : total stake s.views ≡ all_draws
    pub seats : (j : ℕ) (u : View) → get_elem? s.views j ≡ some u → Fits s.words u
    pub numbers : Numbers s.views
