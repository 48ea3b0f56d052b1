-- Tickets: those of a kind are 0, 1 and so on.
use Rattle.std.specs.Prelude.{ℕ, ◌≡◌, ◌==◌, ◌&&◌, nat_lt, List}
use Rattle.pfs_levels.specs.JointCalls.{total, one_if, Draw, drawn, AreDrawn}

-- each of them was drawn once, and no other one
abbrev pub TicketsLaw : Type 0
TicketsLaw = (draws : List Draw) (kind ticket : ℕ) → AreDrawn draws
    → total (λ d. one_if ((d.kind == kind) && (d.ticket == ticket))) draws ≡ one_if (nat_lt ticket (drawn draws kind))
