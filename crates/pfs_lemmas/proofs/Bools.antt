-- Truth values: halves of what two tests say together, and tests beside a written-out answer.
use Rattle.std.proofs.Common.{ℕ, ◌≡◌, ◌≤◌, ◌+◌, ◌&&◌, ◌||◌, Bool, true, false, cond, refl, arith}

pub and_first : (a b : Bool) → (a && b) ≡ true → a ≡ true
and_first true b holds = refl
and_first false b holds = cc

pub and_second : (a b : Bool) → (a && b) ≡ true → b ≡ true
and_second true b holds = holds
and_second false b holds = cc

pub or_first : (a b : Bool) → (a || b) ≡ false → a ≡ false
or_first true b fails = cc
or_first false b fails = refl

pub or_second : (a b : Bool) → (a || b) ≡ false → b ≡ false
or_second true b fails = cc
or_second false b fails = fails

pub and_false : (a : Bool) → (a && false) ≡ false
and_false true = refl
and_false false = refl

pub or_false : (a : Bool) → (a || false) ≡ a
or_false true = refl
or_false false = refl

pub or_true : (a : Bool) → (a || true) ≡ true
or_true true = refl
or_true false = refl

pub true_not_false : (a : Bool) → a ≡ true → a ≡ false → ⊥
true_not_false true holds fails = cc
true_not_false false holds fails = cc

pub cond_at_most_one : (a : Bool) → cond a 1 0 ≤ 1
cond_at_most_one true = omega arith
cond_at_most_one false = omega arith

pub counted_once_more : (a b : Bool) (n : ℕ) → n ≤ cond (a && b) (n + 1) n
counted_once_more true true n = omega arith
counted_once_more true false n = omega arith
counted_once_more false b n = omega arith
