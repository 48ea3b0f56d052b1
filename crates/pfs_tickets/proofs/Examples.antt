-- Worked examples.
use Rattle.std.proofs.Common.{◌≡◌, ℕ, ◌<◌, [], ◌∷◌, refl, arith}
use mathlib.Core.Logic.{dite}
use native.Mathlib.Decide.{ℕ_discrete}
use Rattle.pfs_tickets.specs.declared.view.Drawn.{Drawn}
use Rattle.pfs_tickets.specs.declared.view.View.{View}
use Rattle.pfs_tickets.specs.History.{count_of, times, IsRising}
use Rattle.pfs_tickets.specs.Knowledge.{IsWhole, root, drew, joined, left_with, given}
use Rattle.pfs_tickets.specs.WholeSeats.{IsComplete}
use Rattle.pfs_tickets.proofs.TicketFacts.{count_here, count_other, times_here, times_else, times_other}

abbrev drawn : ℕ → ℕ → ℕ → Drawn
drawn by k t = record { by = by; kind = k; ticket = t }

-- two tickets of kind 1, one of kind 2
pub example_count : (count_of 1 (drawn 0 1 1 ∷ drawn 0 2 0 ∷ drawn 3 1 0 ∷ []) ≡ 2) × (times 1 1 (drawn 0 1 1 ∷ drawn 0 2 0 ∷ drawn 3 1 0 ∷ []) ≡ 1)
example_count = (refl, refl)

-- another number and another kind may have a ticket that is not below
pub example_rising : IsRising (drawn 0 1 4 ∷ drawn 3 1 5 ∷ drawn 0 2 6 ∷ drawn 0 1 3 ∷ [])
example_rising = ((λ a b. absurd (omega arith), (λ a b. absurd (omega arith), (λ a b. omega arith, tt))), ((λ a b. absurd (omega arith), (λ a b. absurd (omega arith), tt)), ((λ a b. absurd (omega arith), tt), (tt, tt))))

pub example_falling : ¬ (IsRising (drawn 0 1 3 ∷ drawn 0 1 4 ∷ []))
example_falling r = let n : 4 < 3 = r.0.0 refl refl in absurd (omega arith)

-- nothing was drawn
pub example_none : IsComplete root
example_none = record { kinds = tt; once = λ k t low h. absurd (omega arith); never = λ k t low h. refl; rising = tt; sum = refl }

-- the first ticket of kind 2 was drawn
abbrev one : View
one = drew root 2 0

pub example_one : IsComplete one
example_one = record {
  kinds = (omega arith, tt);
  once = λ k t low h. dite (ℕ_discrete 2 k)
      (λ e. let c = count_here (drawn 0 2 0) [] k e in let a = times_here (drawn 0 2 0) [] k t e (omega arith) in omega arith)
      (λ n. let c = count_other (drawn 0 2 0) [] k n in absurd (omega arith));
  never = λ k t low h. dite (ℕ_discrete 2 k)
      (λ e. let c = count_here (drawn 0 2 0) [] k e in let a = times_else (drawn 0 2 0) [] k t e (λ z. omega arith) in omega arith)
      (λ n. let a = times_other (drawn 0 2 0) [] k t n in omega arith);
  rising = (tt, tt);
  sum = refl;
}

abbrev twice : View
twice = record root { tickets = drawn 1 0 0 ∷ drawn 0 0 0 ∷ [] }

-- one ticket in the hands of two seats
pub example_twice : ¬ (IsComplete twice)
example_twice c = let n : times 0 0 twice.tickets ≡ 1 = c.once 0 0 (omega arith) (omega arith) in let two : times 0 0 twice.tickets ≡ 2 = refl in absurd (omega arith)

-- the root gives ten draws, and has the whole sum again after the join, with the ticket that was drawn meanwhile
pub example_whole : IsWhole (joined (left_with root 10) (drew (given root 10) 2 0))
example_whole = refl
