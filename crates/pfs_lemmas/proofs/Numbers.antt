-- Numbers: a number is itself, by each test.
use Rattle.std.proofs.Common.{ℕ, suc, ◌≡◌, ◌+◌, ◌==◌, true, arith}
use Rattle.std.specs.Prelude.{nat_le}

pub eq_self : (n : ℕ) → (n == n) ≡ true
eq_self n = grind arith

pub le_self : (n : ℕ) → nat_le n n ≡ true
le_self n = grind arith

pub eq_swap : (m n : ℕ) → (m == n) ≡ (n == m)
eq_swap m n = grind arith

pub zero_plus : (n : ℕ) → 0 + n ≡ n
zero_plus n = omega arith

pub plus_zero_first : (n : ℕ) → n ≡ 0 + n
plus_zero_first n = omega arith

pub one_plus : (n : ℕ) → 1 + n ≡ suc n
one_plus n = omega arith
