-- Lists in which each key stands once, and sorted lists.
use Rattle.std.proofs.Common.{◌≡◌, refl, ℕ, zero, suc, ◌+◌, ◌-◌, ◌<◌, ◌≤◌, ◌==◌, Bool, true, false, cond, List, [], ◌∷◌, length, get_or, sym, ◌∙◌, ap, subst, arith, add-one, Some}
use Rattle.std.specs.Prelude.{slice_get}
use Rattle.std.specs.List.{Contains, sum_by}
use Rattle.std.specs.List.Sorted.{IsPermutation, IsSorted}
use Rattle.std.specs.Ordering.{is_lt}
use Rattle.std.specs.declared.cmp.Ordering.{Ordering}
use Rattle.std.proofs.lemmas.Bool.{eqb-true}
use Rattle.std.proofs.lemmas.Bool.Decides.{nat_tests}
use Rattle.std.proofs.lemmas.List.Sorted.{Contains-permutation, sum_by-IsPermutation}
use Rattle.std.proofs.lemmas.List.Sums.{sum_by-cons}
use Rattle.std.proofs.lemmas.Option.{get_or_from_slice_get, same_Some, slice_get-get_or, slice_get_within}

at_self : (m n : ℕ) → m ≡ n → (m == n) ≡ true
at_self m n e = grind (arith, nat_tests)

module _ {A : Type 0} where
  -- one of a list, at an index
  abbrev pub IsOneOf : List A → A → Type 0
  IsOneOf xs x = (k : ℕ) × (slice_get xs k ≡ Some x)

  pub one_moved : (xs ys : List A) (x : A) → IsPermutation xs ys → IsOneOf xs x → IsOneOf ys x
  one_moved xs ys x p i =
      let h : Contains ys x = Contains-permutation xs ys x p (i.0, slice_get_within xs i.0 x i.1, get_or_from_slice_get xs i.0 x x i.1) in
      (h.0, slice_get-get_or ys h.0 x h.1 ∙ ap Some h.2)

  -- each key stands once
  abbrev pub AreSingle : (A → ℕ) → List A → Type 0
  AreSingle key xs = (j k : ℕ) (one other : A) → slice_get xs j ≡ Some one → slice_get xs k ≡ Some other → key one ≡ key other → j ≡ k

  count : (A → ℕ) → ℕ → List A → ℕ
  count key n xs = sum_by (λ x. cond (key x == n) 1 0) xs

  some_counted : (key : A → ℕ) (n : ℕ) (xs : List A) (k : ℕ) (x : A) → slice_get xs k ≡ Some x → key x ≡ n → 1 ≤ count key n xs
  unfolding count
  some_counted key n [] k x g e = absurd (cc)
  some_counted key n (y ∷ ys) zero x g e =
      let own : cond {A = ℕ} (key y == n) 1 0 ≡ 1 = ap (λ b. cond b 1 0) (at_self (key y) n (ap key (same_Some y x g) ∙ e)) in
      omega (arith, own, sum_by-cons (λ x. cond (key x == n) 1 0) y ys)
  some_counted key n (y ∷ ys) (suc k) x g e =
      let rest : 1 ≤ count key n ys = some_counted key n ys k x g e in
      omega (arith, rest, sum_by-cons (λ x. cond (key x == n) 1 0) y ys)

  none_counted : (key : A → ℕ) (n : ℕ) (xs : List A) → ((k : ℕ) (x : A) → slice_get xs k ≡ Some x → key x ≡ n → ⊥) → count key n xs ≡ 0
  unfolding count
  none_counted key n [] none = refl
  none_counted key n (y ∷ ys) none =
      sum_by-cons (λ x. cond (key x == n) 1 0) y ys ∙ on (key y == n) refl (none_counted key n ys (λ k x g e. none (suc k) x g e)) where
        on : (b : Bool) → (key y == n) ≡ b → count key n ys ≡ 0 → cond {A = ℕ} b 1 0 + count key n ys ≡ 0
        on true e h = absurd (none zero y refl (eqb-true (key y) n e))
        on false e h = omega (arith, h)

  few_single : (key : A → ℕ) (xs : List A) → ((n : ℕ) → count key n xs ≤ 1) → AreSingle key xs
  unfolding count
  few_single key [] few j k one other g h e = absurd (cc)
  few_single key (x ∷ xs) few zero zero one other g h e = refl
  few_single key (x ∷ xs) few zero (suc k) one other g h e =
      let own : cond {A = ℕ} (key x == key other) 1 0 ≡ 1 = ap (λ b. cond b 1 0) (at_self (key x) (key other) (ap key (same_Some x one g) ∙ e)) in
      let rest : 1 ≤ count key (key other) xs = some_counted key (key other) xs k other h refl in
      let most : count key (key other) (x ∷ xs) ≤ 1 = few (key other) in
      absurd (omega (arith, own, rest, most, sum_by-cons (λ z. cond (key z == key other) 1 0) x xs))
  few_single key (x ∷ xs) few (suc j) zero one other g h e =
      let own : cond {A = ℕ} (key x == key one) 1 0 ≡ 1 = ap (λ b. cond b 1 0) (at_self (key x) (key one) (ap key (same_Some x other h) ∙ sym e)) in
      let rest : 1 ≤ count key (key one) xs = some_counted key (key one) xs j one g refl in
      let most : count key (key one) (x ∷ xs) ≤ 1 = few (key one) in
      absurd (omega (arith, own, rest, most, sum_by-cons (λ z. cond (key z == key one) 1 0) x xs))
  few_single key (x ∷ xs) few (suc j) (suc k) one other g h e =
      ap suc (few_single key xs (λ n. let most : count key n (x ∷ xs) ≤ 1 = few n in omega (arith, most, sum_by-cons (λ z. cond (key z == n) 1 0) x xs)) j k one other g h e)

  single_few : (key : A → ℕ) (n : ℕ) (xs : List A) → AreSingle key xs → count key n xs ≤ 1
  unfolding count
  single_few key n [] single = omega arith
  single_few key n (x ∷ xs) single = on (key x == n) refl (single_few key n xs (λ j k one other g h e. back (single (suc j) (suc k) one other g h e))) where
    back : {j k : ℕ} → suc j ≡ suc k → j ≡ k
    back {j} {k} e = omega (arith, e)

    on : (b : Bool) → (key x == n) ≡ b → count key n xs ≤ 1 → count key n (x ∷ xs) ≤ 1
    on false e h =
        let own : cond {A = ℕ} (key x == n) 1 0 ≡ 0 = ap (λ b. cond b 1 0) e in
        omega (arith, own, h, sum_by-cons (λ z. cond (key z == n) 1 0) x xs)
    on true e h =
        let own : cond {A = ℕ} (key x == n) 1 0 ≡ 1 = ap (λ b. cond b 1 0) e in
        let none : count key n xs ≡ 0 = none_counted key n xs (λ k other g q. apart (single zero (suc k) x other refl g (eqb-true (key x) n e ∙ sym q))) in
        omega (arith, own, none, sum_by-cons (λ z. cond (key z == n) 1 0) x xs) where
          apart : {k : ℕ} → zero ≡ suc k → ⊥
          apart {k} e = omega (arith, e)

  pub single_moved : (key : A → ℕ) (xs ys : List A) → IsPermutation xs ys → AreSingle key xs → AreSingle key ys
  unfolding count
  single_moved key xs ys p single = few_single key ys (λ n. low n (single_few key n xs single)) where
    low : (n : ℕ) → count key n xs ≤ 1 → count key n ys ≤ 1
    low n h = let same : count key n ys ≡ count key n xs = sum_by-IsPermutation (λ x. cond (key x == n) 1 0) xs ys p in omega (arith, same, h)

  -- what holds of neighbours in a sorted list holds of any two in their order
  pub sorted_all : (cmp : A → A → Ordering) (R : A → A → Type 0) → ((a b : A) → is_lt (cmp b a) ≡ false → R a b) → ((a : A) → R a a)
      → ((a b c : A) → R a b → R b c → R a c) → (xs : List A) → IsSorted cmp xs
      → (i j : ℕ) (one other : A) → i ≤ j → slice_get xs i ≡ Some one → slice_get xs j ≡ Some other → R one other
  sorted_all cmp R step same trans xs sorted i j one other l p q = on (j - i) j other (omega (arith, l)) q where
    on : (n j : ℕ) (other : A) → j ≡ i + n → slice_get xs j ≡ Some other → R one other
    on zero j other e h =
        subst (R one) (same_Some one other (sym p ∙ ap (slice_get xs) (sym (e ∙ none i)) ∙ h)) (same one) where
          none : (m : ℕ) → m + 0 ≡ m
          none m = omega arith
    on (suc n) zero other e h = absurd (omega (arith, e))
    on (suc n) (suc j) other e h =
        let within : suc j < length xs = slice_get_within xs (suc j) other h in
        let there : slice_get xs j ≡ Some (get_or xs j other) = slice_get-get_or xs j other (omega (arith, within)) in
        let before : R one (get_or xs j other) = on n j (get_or xs j other) (omega (arith, e)) there in
        let less : is_lt (cmp (get_or xs (j + 1) other) (get_or xs j other)) ≡ false = sorted j other (omega arith) (omega (arith, within)) in
        let is : get_or xs (j + 1) other ≡ other = ap (λ z. get_or xs z other) (add-one j) ∙ get_or_from_slice_get xs (suc j) other other h in
        trans one (get_or xs j other) other before (step (get_or xs j other) other (sym (ap (λ z. is_lt (cmp z (get_or xs j other))) is) ∙ less))
