-- Entries put to their places one after another: they ascend, and each stands there where no two have one key.
use Rattle.std.proofs.Common.{◌≡◌, ℕ, zero, suc, ◌+◌, ◌<◌, ◌≤◌, Bool, true, false, List, [], ◌∷◌, ◌++◌, append-nil, refl, sym, ◌∙◌, ap, subst, arith}
use Rattle.std.specs.Prelude.{fold, IsPermutation}
use Rattle.std.specs.List.{AllByRecursion, IsDistinct, flat_map, range_with_len}
use Rattle.std.specs.List.Sorted.{IsStrictlySortedBy}
use Rattle.std.specs.declared.cmp.Ordering.{Ordering}
use Rattle.std.specs.declared.cmp.Ordering.TheVariants.{Less, Equal, Greater}
use Rattle.std.specs.Ordering.{eq_by_cmp, is_eq, match_ordering, ordering_reverse}
use Rattle.std.specs.Cmp.{IsTotalOrder, eq_by_cmp_equiv}
use Rattle.std.specs.Map.{keys_of, values_of}
use Rattle.std.specs.BTreeMap.{insert_entry}
use Rattle.std.proofs.lemmas.Bool.{false≢true}
use Rattle.std.proofs.lemmas.List.{map-append}
use Rattle.std.proofs.lemmas.List.Elements.{All-from_recursion, recursion_from_All}
use Rattle.std.proofs.lemmas.List.Sorted.{IsPermutation-refl, IsPermutation-sym, IsPermutation-cons, IsPermutation-append_right, IsPermutation-trans, IsPermutation-middle}
use Rattle.std.proofs.lemmas.Map.Views.{All-keys-insert_entry, All-values-insert_entry}

-- ---- what holds of each

pub weaker : {X : Type 0} (P Q : X → Type 0) → ((x : X) → P x → Q x) → (xs : List X) → AllByRecursion P xs → AllByRecursion Q xs
weaker P Q so [] h = tt
weaker P Q so (x ∷ xs) h = (so x h.0, weaker P Q so xs h.1)

pub both : {X : Type 0} (P : X → Type 0) (xs ys : List X) → AllByRecursion P xs → AllByRecursion P ys → AllByRecursion P (xs ++ ys)
both P [] ys h k = k
both P (x ∷ xs) ys h k = (h.0, both P xs ys h.1 k)

module _ {K X : Type 0} where
  abbrev pub put : (K → K → Ordering) → List (K × X) → K × X → List (K × X)
  put cmp es e = insert_entry cmp es e.0 e.1

  keys_put : (cmp : K → K → Ordering) (P : K → Type 0) (es : List (K × X)) (k : K) (v : X) → AllByRecursion P (keys_of es) → P k → AllByRecursion P (keys_of (insert_entry cmp es k v))
  keys_put cmp P es k v h p =
      recursion_from_All P (keys_of (insert_entry cmp es k v)) (All-keys-insert_entry cmp k v P es (All-from_recursion P (keys_of es) h) p)

  values_put : (cmp : K → K → Ordering) (P : X → Type 0) (es : List (K × X)) (k : K) (v : X) → AllByRecursion P (values_of es) → P v → AllByRecursion P (values_of (insert_entry cmp es k v))
  values_put cmp P es k v h p =
      recursion_from_All P (values_of (insert_entry cmp es k v)) (All-values-insert_entry cmp k v P es (All-from_recursion P (values_of es) h) p)

  -- what holds of each value that is put holds of each that stands
  pub values_puts : (cmp : K → K → Ordering) (P : X → Type 0) (es more : List (K × X)) → AllByRecursion P (values_of es) → AllByRecursion P (values_of more) → AllByRecursion P (values_of (fold (put cmp) es more))
  values_puts cmp P es [] h k = h
  values_puts cmp P es (m ∷ ms) h k = values_puts cmp P (put cmp es m) ms (values_put cmp P es m.0 m.1 h k.0) k.1

  -- ---- the keys ascend

  module _ {R : K → K → Ordering} (o : IsTotalOrder R) where
    sorted_put : (es : List (K × X)) (k : K) (v : X) → IsStrictlySortedBy R (keys_of es) → IsStrictlySortedBy R (keys_of (insert_entry R es k v))
    unfolding IsStrictlySortedBy
    sorted_put [] k v s = (tt, tt)
    sorted_put (e ∷ es) k v s = at (sorted_put es k v s.1) (R k e.0) refl
      where
        at : IsStrictlySortedBy R (keys_of (insert_entry R es k v)) → (r : Ordering) → R k e.0 ≡ r
            → IsStrictlySortedBy R (keys_of (match_ordering r ((k, v) ∷ e ∷ es) ((e.0, v) ∷ es) (e ∷ insert_entry R es k v)))
        at behind Less is = ((is, weaker (λ y. R e.0 y ≡ Less) (λ y. R k y ≡ Less) (λ y below. o.trans k e.0 y is below) (keys_of es) s.0), s)
        at behind Equal is = s
        at behind Greater is = (keys_put R (λ y. R e.0 y ≡ Less) es k v s.0 (o.antisymm e.0 k ∙ ap ordering_reverse is), behind)

    pub sorted_puts : (es more : List (K × X)) → IsStrictlySortedBy R (keys_of es) → IsStrictlySortedBy R (keys_of (fold (put R) es more))
    sorted_puts es [] s = s
    sorted_puts es (m ∷ ms) s = sorted_puts (put R es m) ms (sorted_put es m.0 m.1 s)

    -- ---- each stands there

    perm_put : (es : List (K × X)) (k : K) (v : X) → AllByRecursion (λ q. eq_by_cmp R k q ≡ false) (keys_of es) → IsPermutation ((k, v) ∷ es) (insert_entry R es k v)
    perm_put [] k v apart = IsPermutation-refl ((k, v) ∷ [])
    perm_put (e ∷ es) k v apart = at (perm_put es k v apart.1) (R k e.0) refl
      where
        at : IsPermutation ((k, v) ∷ es) (insert_entry R es k v) → (r : Ordering) → R k e.0 ≡ r
            → IsPermutation ((k, v) ∷ e ∷ es) (match_ordering r ((k, v) ∷ e ∷ es) ((e.0, v) ∷ es) (e ∷ insert_entry R es k v))
        at behind Less is = IsPermutation-refl ((k, v) ∷ e ∷ es)
        at behind Equal is = absurd (false≢true (sym apart.0 ∙ ap is_eq is))
        at behind Greater is =
            IsPermutation-trans ((k, v) ∷ e ∷ es) (e ∷ (k, v) ∷ es) (e ∷ insert_entry R es k v) (IsPermutation-middle ((k, v) ∷ []) e es)
            (IsPermutation-cons e ((k, v) ∷ es) (insert_entry R es k v) behind)

    perm_puts : (es more : List (K × X)) → IsDistinct (eq_by_cmp R) (keys_of more) → AllByRecursion (λ q. AllByRecursion (λ m. eq_by_cmp R m q ≡ false) (keys_of more)) (keys_of es)
        → IsPermutation (more ++ es) (fold (put R) es more)
    unfolding IsDistinct
    perm_puts es [] distinct apart = IsPermutation-refl es
    perm_puts es (m ∷ ms) distinct apart =
        let new = put R es m in
        let first = weaker (λ q. AllByRecursion (λ n. eq_by_cmp R n q ≡ false) (keys_of (m ∷ ms))) (λ q. eq_by_cmp R m.0 q ≡ false) (λ q h. h.0) (keys_of es) apart in
        let rest = weaker (λ q. AllByRecursion (λ n. eq_by_cmp R n q ≡ false) (keys_of (m ∷ ms))) (λ q. AllByRecursion (λ n. eq_by_cmp R n q ≡ false) (keys_of ms)) (λ q h. h.1) (keys_of es) apart in
        let own = weaker (λ n. eq_by_cmp R m.0 n ≡ false) (λ n. eq_by_cmp R n m.0 ≡ false) (λ n h. (eq_by_cmp_equiv o).symm n m.0 ∙ h) (keys_of ms) distinct.0 in
        IsPermutation-trans (m ∷ (ms ++ es)) (ms ++ m ∷ es) (fold (put R) new ms) (IsPermutation-sym (ms ++ m ∷ es) (m ∷ (ms ++ es)) (IsPermutation-middle ms m es))
        (IsPermutation-trans (ms ++ m ∷ es) (ms ++ new) (fold (put R) new ms) (IsPermutation-append_right ms (m ∷ es) new (perm_put es m.0 m.1 first))
        (perm_puts new ms distinct.1 (keys_put R (λ q. AllByRecursion (λ n. eq_by_cmp R n q ≡ false) (keys_of ms)) es m.0 m.1 rest own)))

    -- with no two keys alike, each stands there once and nothing else does
    pub each_put : (more : List (K × X)) → IsDistinct (eq_by_cmp R) (keys_of more) → IsPermutation more (fold (put R) [] more)
    each_put more distinct = subst (λ l. IsPermutation l (fold (put R) [] more)) (append-nil more) (perm_puts [] more distinct tt)

-- ---- keys that are apart

module _ {K : Type 0} (same : K → K → Bool) where
  pub apart_both : (xs ys : List K) → IsDistinct same xs → IsDistinct same ys → AllByRecursion (λ x. AllByRecursion (λ y. same x y ≡ false) ys) xs → IsDistinct same (xs ++ ys)
  unfolding IsDistinct
  apart_both [] ys d e h = e
  apart_both (x ∷ xs) ys d e h = (both (λ y. same x y ≡ false) xs ys d.0 h.0, apart_both xs ys d.1 e h.1)

  module _ {X : Type 0} (f : ℕ → List (K × X)) where
    -- what holds of the keys of each block
    pub of_blocks : (P : K → Type 0) (a n : ℕ) → ((k : ℕ) → a ≤ k → AllByRecursion P (keys_of (f k))) → AllByRecursion P (keys_of (flat_map f (range_with_len a n)))
    of_blocks P a zero h = tt
    of_blocks P a (suc n) h =
        subst (AllByRecursion P) (sym (map-append (λ (e : K × X). e.0) (f a) (flat_map f (range_with_len (a + 1) n))))
        (both P (keys_of (f a)) (keys_of (flat_map f (range_with_len (a + 1) n))) (h a (omega arith)) (of_blocks P (a + 1) n (λ k low. h k (omega arith))))

    -- blocks whose keys have the block's number, each with its keys apart, have all keys apart
    pub apart_blocks : (g : K → ℕ) → ((x y : K) → same x y ≡ true → g x ≡ g y) → ((k : ℕ) → AllByRecursion (λ x. g x ≡ k) (keys_of (f k))) → ((k : ℕ) → IsDistinct same (keys_of (f k)))
        → (a n : ℕ) → IsDistinct same (keys_of (flat_map f (range_with_len a n)))
    unfolding IsDistinct
    apart_blocks g alike numbered inner a zero = tt
    apart_blocks g alike numbered inner a (suc n) =
        let rest = flat_map f (range_with_len (a + 1) n) in
        let later = of_blocks (λ y. a < g y) (a + 1) n (λ k low. weaker (λ y. g y ≡ k) (λ y. a < g y) (λ y is. omega arith) (keys_of (f k)) (numbered k)) in
        let other : (x : K) → g x ≡ a → (y : K) → a < g y → same x y ≡ false = λ x is y past. apart x y is past (same x y) refl in
        subst (IsDistinct same) (sym (map-append (λ (e : K × X). e.0) (f a) rest))
        (apart_both (keys_of (f a)) (keys_of rest) (inner a) (apart_blocks g alike numbered inner (a + 1) n)
        (weaker (λ x. g x ≡ a) (λ x. AllByRecursion (λ y. same x y ≡ false) (keys_of rest)) (λ x is. weaker (λ y. a < g y) (λ y. same x y ≡ false) (other x is) (keys_of rest) later) (keys_of (f a)) (numbered a)))
      where
        apart : (x y : K) → g x ≡ a → a < g y → (b : Bool) → same x y ≡ b → same x y ≡ false
        apart x y is past false e = e
        apart x y is past true e = let s : g x ≡ g y = alike x y e in absurd (omega arith)
