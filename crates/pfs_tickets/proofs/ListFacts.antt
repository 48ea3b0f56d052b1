-- Sums over lists, and facts of each entry.
use Rattle.std.proofs.Common.{◌≡◌, ℕ, zero, suc, ◌+◌, ◌<◌, ◌≤◌, ◌⊎◌, List, [], ◌∷◌, ◌++◌, length, set, sym, refl, ap, ◌∙◌, inl, inr, ⊎_elim, arith}
use mathlib.Core.Option.{some, some-injective, some-ne-none}
use lib.ListN.{get_elem?}
use Rattle.pfs_tickets.specs.History.{Each, total}

module _ {A : Type 0} where
  pub each_map : (P Q : A → Type 0) → ((x : A) → P x → Q x) → (xs : List A) → Each P xs → Each Q xs
  each_map P Q f [] e = tt
  each_map P Q f (x ∷ xs) e = (f x e.0, each_map P Q f xs e.1)

  pub each_append : (P : A → Type 0) (xs ys : List A) → Each P xs → Each P ys → Each P (xs ++ ys)
  each_append P [] ys e f = f
  each_append P (x ∷ xs) ys e f = (e.0, each_append P xs ys e.1 f)

  pub at_below : (xs : List A) (i : ℕ) (v : A) → get_elem? xs i ≡ some v → i < length xs
  at_below [] i v e = absurd (some-ne-none v (sym e))
  at_below (x ∷ xs) zero v e = omega arith
  at_below (x ∷ xs) (suc i) v e = let h = at_below xs i v e in omega arith

  -- the last of a list that is one longer has its length for its place
  pub at_end : (l : List A) (a b : A) (j : ℕ) → get_elem? (l ++ a ∷ []) j ≡ some b → (get_elem? l j ≡ some b) ⊎ ((j ≡ length l) × (a ≡ b))
  at_end [] a b zero e = inr (refl, some-injective a b e)
  at_end [] a b (suc j) e = absurd (some-ne-none b (sym e))
  at_end (x ∷ xs) a b zero e = inl e
  at_end (x ∷ xs) a b (suc j) e = ⊎_elim (λ h. inl h) (λ (h : (j ≡ length xs) × (a ≡ b)). inr (ap suc h.0, h.1)) (at_end xs a b j e)

  module _ (f : A → ℕ) where
    pub total_set : (xs : List A) (i : ℕ) (v w : A) → get_elem? xs i ≡ some v → total f (set xs i w) + f v ≡ total f xs + f w
    total_set [] i v w e = absurd (some-ne-none v (sym e))
    total_set (x ∷ xs) zero v w e = let h = ap f (some-injective x v e) in omega arith
    total_set (x ∷ xs) (suc i) v w e = let h = total_set xs i v w e in omega arith

    pub total_same : (xs : List A) (i : ℕ) (v w : A) → get_elem? xs i ≡ some v → f w ≡ f v → total f (set xs i w) ≡ total f xs
    total_same xs i v w e same = let h = total_set xs i v w e in omega arith

    pub total_one : (xs : List A) (i : ℕ) (v : A) → get_elem? xs i ≡ some v → f v ≤ total f xs
    total_one [] i v e = absurd (some-ne-none v (sym e))
    total_one (x ∷ xs) zero v e = let h = ap f (some-injective x v e) in omega arith
    total_one (x ∷ xs) (suc i) v e = let h = total_one xs i v e in omega arith

    pub total_append : (xs ys : List A) → total f (xs ++ ys) ≡ total f xs + total f ys
    total_append [] ys = omega arith
    total_append (x ∷ xs) ys = let e = total_append xs ys in omega arith

  module _ (f g : A → ℕ) (low : (x : A) → f x ≤ g x) where
    pub total_up : (xs : List A) → total f xs ≤ total g xs
    total_up [] = omega arith
    total_up (x ∷ xs) = let a = low x in let b = total_up xs in omega arith

    -- what one entry leaves free, all leave
    pub total_room : (xs : List A) (i : ℕ) (v : A) (c : ℕ) → get_elem? xs i ≡ some v → f v + c ≤ g v → total f xs + c ≤ total g xs
    total_room [] i v c e h = absurd (some-ne-none v (sym e))
    total_room (x ∷ xs) zero v c e h = let a = ap f (some-injective x v e) in let b = ap g (some-injective x v e) in let d = total_up xs in omega arith
    total_room (x ∷ xs) (suc i) v c e h = let a = low x in let b = total_room xs i v c e h in omega arith

    -- where one entry has the whole sum, the others have nothing
    pub total_alone : (xs : List A) (i : ℕ) (v : A) → get_elem? xs i ≡ some v → g v ≡ total g xs → total f xs ≡ f v
    total_alone [] i v e h = absurd (some-ne-none v (sym e))
    total_alone (x ∷ xs) zero v e h = let a = ap f (some-injective x v e) in let b = ap g (some-injective x v e) in let d = total_up xs in omega arith
    total_alone (x ∷ xs) (suc i) v e h = let a = low x in let one = total_one g xs i v e in let b = total_alone xs i v e (omega arith) in omega arith
