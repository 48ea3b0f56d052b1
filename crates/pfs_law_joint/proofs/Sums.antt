-- Sums along lists.
use Rattle.std.proofs.Common.{ℕ, ◌≡◌, ◌+◌, ◌≤◌, ◌<◌, Bool, true, false, List, [], ◌∷◌, ◌++◌, map, refl, ap, arith}
use Rattle.pfs_levels.specs.JointCalls.{total, one_if}

pub total_then : {A : Type 0} (h : A → ℕ) (xs ys : List A) → total h (xs ++ ys) ≡ total h xs + total h ys
unfolding total
total_then h [] ys = omega arith
total_then h (x ∷ xs) ys = omega (arith, total_then h xs ys)

pub total_map : {A B : Type 0} (f : A → B) (h : B → ℕ) (xs : List A) → total h (map f xs) ≡ total (λ x. h (f x)) xs
unfolding total
total_map f h [] = refl
total_map f h (x ∷ xs) = ap (λ n. h (f x) + n) (total_map f h xs)

pub total_low : {A : Type 0} (h g : A → ℕ) → ((x : A) → h x ≤ g x) → (xs : List A) → total h xs ≤ total g xs
unfolding total
total_low h g low [] = omega arith
total_low h g low (x ∷ xs) = omega (arith, low x, total_low h g low xs)

pub one_low : (b : Bool) → one_if b ≤ 1
one_low true = omega arith
one_low false = omega arith

pub so_low : (a b : Bool) → (a ≡ true → b ≡ true) → one_if a ≤ one_if b
so_low true b so = omega (arith, ap one_if (so refl))
so_low false b so = omega arith

-- one that passes a test stands in the list, so each test that it passes is passed in the list
pub picked : {A : Type 0} (test : A → Bool) (xs : List A) → 0 < total (λ x. one_if (test x)) xs
    → (x : A) × ((test x ≡ true) × ((other : A → Bool) → other x ≡ true → 0 < total (λ y. one_if (other y)) xs))
unfolding total
picked test [] up = absurd (omega (arith, up))
picked {A} test (x ∷ xs) up = at (λ more. picked test xs more) (test x) refl up where
  at : (0 < total (λ y. one_if (test y)) xs → (z : A) × ((test z ≡ true) × ((other : A → Bool) → other z ≡ true → 0 < total (λ y. one_if (other y)) xs)))
      → (b : Bool) → test x ≡ b → 0 < one_if b + total (λ y. one_if (test y)) xs
      → (z : A) × ((test z ≡ true) × ((other : A → Bool) → other z ≡ true → 0 < total (λ y. one_if (other y)) (x ∷ xs)))
  at behind true e up = (x, (e, λ other q. omega (arith, ap one_if q)))
  at behind false e up =
      let r = behind (omega (arith, up)) in
      (r.0, (r.1.0, λ other q. omega (arith, r.1.1 other q)))
