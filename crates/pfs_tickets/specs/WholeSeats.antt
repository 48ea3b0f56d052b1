-- What a seat is told that has the whole sum.
use Rattle.std.specs.Prelude.{◌≡◌, ℕ, ◌+◌, ◌<◌, ◌≤◌}
use Rattle.pfs_tickets.specs.declared.view.Drawn.{Drawn}
use Rattle.pfs_tickets.specs.declared.view.View.{View}
use Rattle.pfs_tickets.specs.History.{Each, count_of, times, IsRising}
use Rattle.pfs_tickets.specs.Knowledge.{all_draws}

-- Of each kind the tickets from 0 to one below their number were drawn, each once, so by one seat, and no other.
-- Under each number those of a kind rise. With the draws left they add up to all draws
pub record IsComplete (v : View) : Type 0 where
  pub kinds : Each (λ (x : Drawn). x.kind < 4) v.tickets
  pub once : (k t : ℕ) → k < 4 → t < count_of k v.tickets → times k t v.tickets ≡ 1
  pub never : (k t : ℕ) → k < 4 → count_of k v.tickets ≤ t → times k t v.tickets ≡ 0
  pub rising : IsRising v.tickets
  pub sum : v.draws + (count_of 0 v.tickets + count_of 1 v.tickets + count_of 2 v.tickets + count_of 3 v.tickets)
      ≡ all_draws
