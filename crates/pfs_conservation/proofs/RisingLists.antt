-- Rising lists with the same members are the same.
use Rattle.std.proofs.Common.{◌≡◌, ℕ, suc, ◌≤◌, ◌==◌, Bool, true, false, cond, List, [], ◌∷◌, count_by, refl, sym, ap, ◌∙◌, subst, arith}
use Rattle.std.proofs.lemmas.Bool.{eqb-true}
use Rattle.pfs_lemmas.proofs.Numbers.{eq_self}
use Rattle.pfs_conservation.proofs.ChainEvents.{count_cons}

abbrev pub Rising : ℕ → List ℕ → Type 0
Rising low [] = Unit {0}
Rising low (x ∷ xs) = (low ≤ x) × Rising (suc x) xs

bit : (b : Bool) → b ≡ true → ◌≡◌ {A = ℕ} (cond b 1 0) 1
bit b h = ap (λ (c : Bool). cond {A = ℕ} c 1 0) h

bit_no : (b : Bool) → b ≡ false → ◌≡◌ {A = ℕ} (cond b 1 0) 0
bit_no b h = ap (λ (c : Bool). cond {A = ℕ} c 1 0) h

apart : (a b : ℕ) → (a ≡ b → ⊥) → (a == b) ≡ false
apart a b h = grind (arith, h)

rising_above : (low : ℕ) (xs : List ℕ) → Rising low xs → (n : ℕ) → 1 ≤ count_by (λ x. x == n) xs → low ≤ n
rising_above low [] r n h = absurd (omega arith)
rising_above low (x ∷ xs) r n h = at (x == n) refl (rising_above (suc x) xs r.1 n)
  where
    at : (b : Bool) → (x == n) ≡ b → (1 ≤ count_by (λ y. y == n) xs → suc x ≤ n) → low ≤ n
    at true q ih = let first : low ≤ x = r.0 in omega (arith, eqb-true x n q)
    at false q ih = let later : suc x ≤ n = ih (omega (arith, h, count_cons (λ y. y == n) x xs, bit_no (x == n) q)) in let first : low ≤ x = r.0 in omega arith

abbrev pub Members : List ℕ → List ℕ → Type 0
Members xs ys = (n : ℕ) → 1 ≤ count_by (λ x. x == n) xs → 1 ≤ count_by (λ y. y == n) ys

has_first : (x : ℕ) (xs : List ℕ) → 1 ≤ count_by (λ y. y == x) (x ∷ xs)
has_first x xs = omega (arith, count_cons (λ y. y == x) x xs, bit (x == x) (eq_self x))

pub rising_same : (low : ℕ) (xs ys : List ℕ) → Rising low xs → Rising low ys → Members xs ys → Members ys xs → xs ≡ ys
rising_same low [] [] a b m n = refl
rising_same low [] (y ∷ ys) a b m n = absurd (let bad : 1 ≤ 0 = n y (has_first y ys) in omega arith)
rising_same low (x ∷ xs) [] a b m n = absurd (let bad : 1 ≤ 0 = m x (has_first x xs) in omega arith)
rising_same low (x ∷ xs) (y ∷ ys) a b m n =
    let up : y ≤ x = rising_above y (y ∷ ys) (omega arith, b.1) x (m x (has_first x xs)) in
    let down : x ≤ y = rising_above x (x ∷ xs) (omega arith, a.1) y (n y (has_first y ys)) in
    let here : x ≡ y = omega arith in
    ap (λ z. z ∷ xs) here ∙ ap (λ zs. y ∷ zs) (rising_same (suc x) xs ys a.1 (subst (λ z. Rising (suc z) ys) (sym here) b.1) (tail x xs y ys here a.1 m) (tail y ys x xs (sym here) b.1 n))
  where
    tail : (x : ℕ) (xs : List ℕ) (y : ℕ) (ys : List ℕ) → x ≡ y → Rising (suc x) xs → Members (x ∷ xs) (y ∷ ys) → Members xs ys
    tail x xs y ys here r m k some =
        let above : suc x ≤ k = rising_above (suc x) xs r k some in
        omega (arith, m k (omega (arith, some, count_cons (λ z. z == k) x xs)), count_cons (λ z. z == k) y ys, bit_no (y == k) (apart y k (λ q. omega arith)))
