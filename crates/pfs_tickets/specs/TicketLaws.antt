-- What follows from the clauses of the calls alone.
use Rattle.std.specs.Prelude.{◌≡◌, ℕ, ◌+◌, ◌<◌, ◌≤◌, List, ◌++◌}
use Rattle.pfs_tickets.specs.declared.view.Drawn.{Drawn}
use Rattle.pfs_tickets.specs.declared.view.View.{View}
use Rattle.pfs_tickets.specs.History.{count_of, times}
use Rattle.pfs_tickets.specs.Knowledge.{stake, drew, left_with, given, joined}
use Rattle.pfs_tickets.specs.WholeSeats.{IsComplete}

-- draws left and tickets drawn stay one sum: a draw keeps it, a split divides it, a join adds it up
abbrev pub SumLaw : Type 0
SumLaw = ((v : View) (k t : ℕ) → 0 < v.draws → stake (drew v k t) ≡ stake v)
    × ((v : View) (n : ℕ) → n ≤ v.draws → stake (left_with v n) + stake (given v n) ≡ stake v)
    × ((v w : View) → stake (joined v w) ≡ stake v + stake w)

-- Between two tellings the tickets `new` were drawn: of each kind those from the earlier number to one below the later,
-- each once, and no other
abbrev pub PhaseLaw : Type 0
PhaseLaw = (v w : View) (new : List Drawn) → IsComplete v → IsComplete w → w.tickets ≡ new ++ v.tickets → (k : ℕ)
    → k < 4
    → (count_of k new + count_of k v.tickets ≡ count_of k w.tickets)
    × ((t : ℕ) → count_of k v.tickets ≤ t → t < count_of k w.tickets → times k t new ≡ 1)
    × ((t : ℕ) → t < count_of k v.tickets → times k t new ≡ 0)
    × ((t : ℕ) → count_of k w.tickets ≤ t → times k t new ≡ 0)
