-- Tickets that were drawn, added up: those of a kind are 0, 1 and so on.
use Rattle.std.proofs.Common.{ℕ, zero, suc, ◌≡◌, ◌+◌, ◌==◌, Bool, true, false, cond, ◌&&◌, List, [], ◌∷◌, refl, ap, sym, ◌∙◌, arith, eqb-true, add-one}
use Rattle.std.specs.Prelude.{nat_lt}
use Rattle.pfs_levels.specs.JointCalls.{total, one_if, Draw, drawn, AreDrawn}
use Rattle.pfs_law_joint.specs.Tickets.{TicketsLaw}

-- a draw of this kind, of a ticket that passes
abbrev pub of_draw : ℕ → (ℕ → Bool) → Draw → Bool
of_draw kind test d = (d.kind == kind) && test d.ticket

-- how many numbers below this one pass
abbrev pub sum_to : (ℕ → Bool) → ℕ → ℕ
sum_to test zero = 0
sum_to test (suc n) = sum_to test n + one_if (test n)

pub drawn_sum : (kind : ℕ) (test : ℕ → Bool) (ds : List Draw) → AreDrawn ds → total (λ d. one_if (of_draw kind test d)) ds ≡ sum_to test (drawn ds kind)
unfolding total drawn
drawn_sum kind test [] are = refl
drawn_sum kind test (d ∷ ds) are = at (d.kind == kind) refl (drawn_sum kind test ds are.1) where
  at : (b : Bool) → (d.kind == kind) ≡ b → total (λ x. one_if (of_draw kind test x)) ds ≡ sum_to test (drawn ds kind) → one_if (b && test d.ticket) + total (λ x. one_if (of_draw kind test x)) ds ≡ sum_to test (cond b (drawn ds kind + 1) (drawn ds kind))
  at true e rest =
      let t : d.ticket ≡ drawn ds kind = are.0 ∙ ap (drawn ds) (eqb-true d.kind kind e) in
      omega (arith, rest, ap (λ n. one_if (test n)) t, ap (sum_to test) (add-one (drawn ds kind)))
  at false e rest = omega (arith, rest)

pub sum_whole : (n : ℕ) → sum_to (λ t. true) n ≡ n
sum_whole zero = refl
sum_whole (suc n) = omega (arith, sum_whole n)

pub sum_one : (ticket n : ℕ) → sum_to (λ t. t == ticket) n ≡ one_if (nat_lt ticket n)
sum_one ticket zero = sym (ap one_if (none ticket)) where
  none : (t : ℕ) → nat_lt t 0 ≡ false
  none t = grind arith
sum_one ticket (suc n) = omega (arith, sum_one ticket n, step ticket n) where
  step : (t n : ℕ) → one_if (nat_lt t n) + one_if (n == t) ≡ one_if (nat_lt t (suc n))
  step t n = grind arith

pub tickets_once : TicketsLaw
tickets_once = λ draws kind ticket are. drawn_sum kind (λ t. t == ticket) draws are ∙ sum_one ticket (drawn draws kind)
