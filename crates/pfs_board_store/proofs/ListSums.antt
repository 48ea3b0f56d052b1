-- Lists in which each thing stands as often have the same sums.
use Rattle.std.proofs.Common.{ℕ, ◌≡◌, ◌+◌, ◌<◌, Bool, true, false, List, [], ◌∷◌, refl, ap, sym, ◌∙◌, arith}
use Rattle.pfs_levels.specs.JointCalls.{total, one_if}

pub total_one : {A : Type 0} (h : A → ℕ) (x : A) (xs : List A) → total h (x ∷ xs) ≡ h x + total h xs
unfolding total
total_one h x xs = refl

pub total_nil : {A : Type 0} (h : A → ℕ) → total h [] ≡ 0
unfolding total
total_nil h = refl

module _ (A : Type 0) (same : A → A → Bool) (is : (a b : A) → same a b ≡ true → a ≡ b) (self : (a : A) → same a a ≡ true) where
  -- how often it stands in a list
  abbrev pub often : A → List A → ℕ
  often a xs = total (λ x. one_if (same a x)) xs

  pull_here : (a x : A) (xs : List A) (b : Bool) → same a x ≡ b → (b ≡ false → (zs : List A) × ((h : A → ℕ) → total h xs ≡ h a + total h zs)) → (zs : List A) × ((h : A → ℕ) → total h (x ∷ xs) ≡ h a + total h zs)
  pull_here a x xs true e rest = (xs, λ h. total_one h x xs ∙ ap (λ z. h z + total h xs) (sym (is a x e)))
  pull_here a x xs false e rest = let r = rest refl in (x ∷ r.0, λ h. omega (arith, total_one h x xs, r.1 h, total_one h x r.0))

  -- one that stands in a list, and the others
  pub pulled : (a : A) (xs : List A) → 0 < often a xs → (zs : List A) × ((h : A → ℕ) → total h xs ≡ h a + total h zs)
  pulled a [] some = absurd (omega (arith, some, total_nil (λ x. one_if (same a x))))
  pulled a (x ∷ xs) some = pull_here a x xs (same a x) refl (λ e.
      let none : one_if (same a x) ≡ 0 = ap one_if e in pulled a xs (omega (arith, some, none, total_one (λ z. one_if (same a z)) x xs)))

  pub same_sums : (xs ys : List A) → ((a : A) → often a xs ≡ often a ys) → (h : A → ℕ) → total h xs ≡ total h ys
  same_sums [] [] e h = refl
  same_sums [] (y ∷ ys) e h = absurd (omega (arith, e y, total_nil (λ x. one_if (same y x)), total_one (λ x. one_if (same y x)) y ys, ap one_if (self y)))
  same_sums (x ∷ xs) ys e h =
      let here : often x (x ∷ xs) ≡ 1 + often x xs = total_one (λ z. one_if (same x z)) x xs ∙ ap (λ n. n + often x xs) (ap one_if (self x)) in
      let rest = pulled x ys (omega (arith, here, e x)) in
      let fewer : (a : A) → often a xs ≡ often a rest.0 = λ a. omega (arith, e a, total_one (λ z. one_if (same a z)) x xs, rest.1 (λ z. one_if (same a z))) in
      total_one h x xs ∙ ap (λ n. h x + n) (same_sums xs rest.0 fewer h) ∙ sym (rest.1 h)
