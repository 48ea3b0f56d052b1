-- Rows at named places, one place more at a time.
use Rattle.std.proofs.Common.{◌≡◌, ◌≢◌, ℕ, ◌+◌, ◌-◌, ◌<◌, ◌≤◌, inl, inr, zero, suc, Bool, true, false, cond, eqb, List, [], ◌∷◌, ◌++◌, length, take, drop, get_or, set, IsTrue, sym, subst, ap, ◌∙◌, refl, arith, length-drop}
use Rattle.std.specs.List.{All, AllByRecursion, remove}
use Rattle.std.specs.List.Sorted.{IsStrictlyIncreasing}
use Rattle.std.proofs.lemmas.Bool.{cases_Bool, cases_lt, ne_eqb}
use Rattle.std.proofs.lemmas.List.{drop_more, get_or-drop, get_or-take, length-take-le, take_more}
use Rattle.std.proofs.lemmas.List.Kept.{AllPairs-from_increasing}
use Rattle.pfs_lemmas.proofs.Numbers.{eq_self}
use Rattle.pfs_matching.specs.KeyedRows.{AreOrdered, AreRows, changed_from, comes_before, is_named, unnamed_from, with_named_changed, without_named}

-- a fact at each index is a fact of each element
all_from_index : (P : ℕ → Type 0) (xs : List ℕ) → ((k : ℕ) → k < length xs → P (get_or xs k 0)) → AllByRecursion P xs
all_from_index P [] holds = tt
all_from_index P (x ∷ xs) holds = (holds zero (omega arith), all_from_index P xs (λ k within. holds (suc k) (omega arith)))

-- the places after one are above it, and those before it are below
pub places_above : (places : List ℕ) (i : ℕ) → IsStrictlyIncreasing places → i < length places → AllByRecursion (λ q. get_or places i 0 < q) (drop (i + 1) places)
places_above places i rises within = all_from_index (λ q. get_or places i 0 < q) (drop (i + 1) places)
    (λ k inside. rw (get_or-drop (i + 1) places k 0) (AllPairs-from_increasing places rises i ((i + 1) + k) 0 (omega arith) (omega (arith, length-drop (i + 1) places))))

pub places_below : (places : List ℕ) (i : ℕ) → IsStrictlyIncreasing places → i < length places → AllByRecursion (λ q. q < get_or places i 0) (take i places)
places_below places i rises within = all_from_index (λ q. q < get_or places i 0) (take i places)
    (λ k inside.
    let below : k < i = omega (arith, length-take-le i places (omega arith)) in
    rw (get_or-take i places k 0 below) (AllPairs-from_increasing places rises k i 0 below within))

-- a place below all the named ones, or above them, isn't named
not_named_below : (n p : ℕ) (places : List ℕ) → n ≤ p → AllByRecursion (λ q. p < q) places → is_named places n ≡ false
not_named_below n p [] le above = refl
not_named_below n p (q ∷ places) le above =
    let differs : q ≢ n = let lt : p < q = above.0 in omega arith in
    rw (ne_eqb q n differs) (not_named_below n p places le above.1)

pub not_named_above : (p : ℕ) (places : List ℕ) → AllByRecursion (λ q. q < p) places → is_named places p ≡ false
not_named_above p [] below = refl
not_named_above p (q ∷ places) below =
    let differs : q ≢ p = let lt : q < p = below.0 in omega arith in
    rw (ne_eqb q p differs) (not_named_above p places below.1)

module _ {R : Type 0} where
  -- a place before the rows names none of them
  unnamed_past : (rows : List R) (n p : ℕ) (places : List ℕ) → p < n → unnamed_from n (p ∷ places) rows ≡ unnamed_from n places rows
  unnamed_past [] n p places past = refl
  unnamed_past (row ∷ rows) n p places past =
      let differs : p ≢ n = omega arith in
      let rest : unnamed_from (n + 1) (p ∷ places) rows ≡ unnamed_from (n + 1) places rows = unnamed_past rows (n + 1) p places (omega arith) in
      rw (ne_eqb p n differs, rest) refl

  -- one place more, below the others: what is left with the others, without the row there
  unnamed_step : (rows : List R) (n p : ℕ) (places : List ℕ) → n ≤ p → p < n + length rows → AllByRecursion (λ q. p < q) places
      → (unnamed_from n (p ∷ places) rows ≡ remove (unnamed_from n places rows) (p - n)) × (p - n < length (unnamed_from n places rows))
  unnamed_step [] n p places le within above = absurd (omega arith)
  unnamed_step (row ∷ rows) n p places le within above = elim (cases_lt n p) [
    | inl later ↦ at_later later (unnamed_step rows (n + 1) p places (omega arith) (omega arith) above)
    | inr here ↦ at_here (omega arith)
  ]
    where
      free : is_named places n ≡ false
      free = not_named_below n p places le above

      at_here : p ≡ n → (unnamed_from n (p ∷ places) (row ∷ rows) ≡ remove (unnamed_from n places (row ∷ rows)) (p - n)) × (p - n < length (unnamed_from n places (row ∷ rows)))
      at_here is =
          let none : p - n ≡ zero = omega arith in
          let named : eqb p n ≡ true = subst (λ m. eqb p m ≡ true) is (eq_self p) in
          let rest : unnamed_from (n + 1) (p ∷ places) rows ≡ unnamed_from (n + 1) places rows = unnamed_past rows (n + 1) p places (omega arith) in
          (rw (named, free, none) rest, rw (free, none) (omega arith))

      at_later : n < p → (unnamed_from (n + 1) (p ∷ places) rows ≡ remove (unnamed_from (n + 1) places rows) (p - (n + 1))) × (p - (n + 1) < length (unnamed_from (n + 1) places rows))
          → (unnamed_from n (p ∷ places) (row ∷ rows) ≡ remove (unnamed_from n places (row ∷ rows)) (p - n)) × (p - n < length (unnamed_from n places (row ∷ rows)))
      at_later later rest =
          let some : p - n ≡ suc (p - (n + 1)) = omega arith in
          let differs : p ≢ n = omega arith in
          (rw (ne_eqb p n differs, free, some) (ap (λ rs. row ∷ rs) rest.0), rw (free, some) (omega (arith, rest.1)))

  all_unnamed : (P : R → Type 0) (rows : List R) (n : ℕ) (places : List ℕ) → AllByRecursion P rows → AllByRecursion P (unnamed_from n places rows)
  all_unnamed P [] n places all = all
  all_unnamed P (row ∷ rows) n places all = elim (cases_Bool (is_named places n)) as (λ _. AllByRecursion P (unnamed_from n places (row ∷ rows))) [
    | inl named ↦ rw named (all_unnamed P rows (n + 1) places all.1)
    | inr free ↦ rw free (all.0, all_unnamed P rows (n + 1) places all.1)
  ]

  length-unnamed_from : (rows : List R) (n : ℕ) (places : List ℕ) → length (unnamed_from n places rows) ≤ length rows
  length-unnamed_from [] n places = omega arith
  length-unnamed_from (row ∷ rows) n places = elim (cases_Bool (is_named places n)) as (λ _. length (unnamed_from n places (row ∷ rows)) ≤ length (row ∷ rows)) [
    | inl named ↦ rw named (omega (arith, length-unnamed_from rows (n + 1) places))
    | inr free ↦ rw free (omega (arith, length-unnamed_from rows (n + 1) places))
  ]

  pub unnamed_from-none : (rows : List R) (n : ℕ) → unnamed_from n [] rows ≡ rows
  unnamed_from-none [] n = refl
  unnamed_from-none (row ∷ rows) n = ap (λ rs. row ∷ rs) (unnamed_from-none rows (n + 1))

  -- a step of a removal from the last place to the first
  pub removes_more : (rows : List R) (places : List ℕ) (i : ℕ) → IsStrictlyIncreasing places → All (λ p. p < length rows) places → i < length places
      → (without_named (drop i places) rows ≡ remove (without_named (drop (i + 1) places) rows) (get_or places i 0)) × (get_or places i 0 < length (without_named (drop (i + 1) places) rows))
  removes_more rows places i rises inside within =
      let p : ℕ = get_or places i 0 in
      let here = drop_more places i 0 within in
      let step = unnamed_step rows 0 p (drop (i + 1) places) (omega arith) (omega (arith, inside i 0 within)) (places_above places i rises within) in
      let zero_less : p - 0 ≡ p = omega arith in (
        subst (λ ps. without_named ps rows ≡ remove (without_named (drop (i + 1) places) rows) p) (sym here) (subst (λ k. unnamed_from 0 (p ∷ drop (i + 1) places) rows ≡ remove (unnamed_from 0 (drop (i + 1) places) rows) k) zero_less step.0),
        omega (arith, step.1),
      )

module _ {R : Type 0} (change : R → R) where
  named_push : (places : List ℕ) (p n : ℕ) → p ≢ n → is_named (places ++ p ∷ []) n ≡ is_named places n
  named_push [] p n differs = rw (ne_eqb p n differs) refl
  named_push (q ∷ places) p n differs = rw (named_push places p n differs) refl

  named_last : (places : List ℕ) (p : ℕ) → is_named (places ++ p ∷ []) p ≡ true
  named_last [] p = rw (eq_self p) refl
  named_last (q ∷ places) p = elim (cases_Bool (eqb q p)) as (λ _. is_named ((q ∷ places) ++ p ∷ []) p ≡ true) [ inl same ↦ rw same refl | inr other ↦ rw (other, named_last places p) refl ]

  changed_past : (rows : List R) (n p : ℕ) (places : List ℕ) → p < n → changed_from change n (places ++ p ∷ []) rows ≡ changed_from change n places rows
  changed_past [] n p places past = refl
  changed_past (row ∷ rows) n p places past =
      let differs : p ≢ n = omega arith in
      rw (named_push places p n differs, changed_past rows (n + 1) p places (omega arith)) refl

  -- one place more: the row there is changed
  changed_step : (rows : List R) (n p : ℕ) (places : List ℕ) (d : R) → n ≤ p → p < n + length rows
      → changed_from change n (places ++ p ∷ []) rows ≡ set (changed_from change n places rows) (p - n) (change (get_or rows (p - n) d))
  changed_step [] n p places d le within = absurd (omega arith)
  changed_step (row ∷ rows) n p places d le within = elim (cases_lt n p) [
    | inl later ↦ at_later later (changed_step rows (n + 1) p places d (omega arith) (omega arith))
    | inr here ↦ at_here (omega arith)
  ]
    where
      at_here : p ≡ n → changed_from change n (places ++ p ∷ []) (row ∷ rows) ≡ set (changed_from change n places (row ∷ rows)) (p - n) (change (get_or (row ∷ rows) (p - n) d))
      at_here is =
          let none : p - n ≡ zero = omega arith in
          let named : is_named (places ++ p ∷ []) n ≡ true = subst (λ m. is_named (places ++ p ∷ []) m ≡ true) is (named_last places p) in
          rw (named, none) (ap (λ rs. change row ∷ rs) (changed_past rows (n + 1) p places (omega arith)))

      at_later : n < p → changed_from change (n + 1) (places ++ p ∷ []) rows ≡ set (changed_from change (n + 1) places rows) (p - (n + 1)) (change (get_or rows (p - (n + 1)) d))
          → changed_from change n (places ++ p ∷ []) (row ∷ rows) ≡ set (changed_from change n places (row ∷ rows)) (p - n) (change (get_or (row ∷ rows) (p - n) d))
      at_later later rest =
          let some : p - n ≡ suc (p - (n + 1)) = omega arith in
          let differs : p ≢ n = omega arith in
          rw (named_push places p n differs, some) (ap (λ rs. (cond (is_named places n) (change row) row) ∷ rs) rest)

  -- a row at a place that isn't named is as it was
  unchanged_at : (rows : List R) (n p : ℕ) (places : List ℕ) (d : R) → n ≤ p → is_named places p ≡ false → get_or (changed_from change n places rows) (p - n) d ≡ get_or rows (p - n) d
  unchanged_at [] n p places d le free = refl
  unchanged_at (row ∷ rows) n p places d le free = elim (cases_lt n p) [
    | inl later ↦ at_later later (unchanged_at rows (n + 1) p places d (omega arith) free)
    | inr here ↦ at_here (omega arith)
  ]
    where
      at_here : p ≡ n → get_or (changed_from change n places (row ∷ rows)) (p - n) d ≡ get_or (row ∷ rows) (p - n) d
      at_here is =
          let none : p - n ≡ zero = omega arith in
          let same : is_named places n ≡ false = subst (λ m. is_named places m ≡ false) is free in
          rw (none, same) refl

      at_later : n < p → get_or (changed_from change (n + 1) places rows) (p - (n + 1)) d ≡ get_or rows (p - (n + 1)) d
          → get_or (changed_from change n places (row ∷ rows)) (p - n) d ≡ get_or (row ∷ rows) (p - n) d
      at_later later rest =
          let some : p - n ≡ suc (p - (n + 1)) = omega arith in
          rw some rest

  pub length-changed_from : (rows : List R) (n : ℕ) (places : List ℕ) → length (changed_from change n places rows) ≡ length rows
  length-changed_from [] n places = refl
  length-changed_from (row ∷ rows) n places = ap suc (length-changed_from rows (n + 1) places)

  pub changed_from-none : (rows : List R) (n : ℕ) → changed_from change n [] rows ≡ rows
  changed_from-none [] n = refl
  changed_from-none (row ∷ rows) n = ap (λ rs. row ∷ rs) (changed_from-none rows (n + 1))

  -- a step of a change from the first place to the last
  pub changes_more : (rows : List R) (places : List ℕ) (i : ℕ) (now : R) → IsStrictlyIncreasing places → All (λ p. p < length rows) places → i < length places
      → now ≡ change (get_or (with_named_changed change (take i places) rows) (get_or places i 0) now)
      → with_named_changed change (take (i + 1) places) rows ≡ set (with_named_changed change (take i places) rows) (get_or places i 0) now
  changes_more rows places i now rises inside within is =
      let p : ℕ = get_or places i 0 in
      let zero_less : p - 0 ≡ p = omega arith in
      let free = not_named_above p (take i places) (places_below places i rises within) in
      let was : get_or (with_named_changed change (take i places) rows) p now ≡ get_or rows p now = subst (λ k. get_or (changed_from change 0 (take i places) rows) k now ≡ get_or rows k now) zero_less (unchanged_at rows 0 p (take i places) now (omega arith) free) in
      let step = subst (λ k. changed_from change 0 (take i places ++ p ∷ []) rows ≡ set (changed_from change 0 (take i places) rows) k (change (get_or rows k now))) zero_less (changed_step rows 0 p (take i places) now (omega arith) (omega (arith, inside i 0 within))) in
      let new : change (get_or rows p now) ≡ now = ap change (sym was) ∙ sym is in
      subst (λ ps. with_named_changed change ps rows ≡ set (with_named_changed change (take i places) rows) p now) (sym (take_more places i 0 within)) (step ∙ ap (λ v. set (with_named_changed change (take i places) rows) p v) new)

module _ {R : Type 0} (key : R → List (List ℕ)) where
  AreOrdered-unnamed_from : (rows : List R) (n : ℕ) (places : List ℕ) → AreOrdered key rows → AreOrdered key (unnamed_from n places rows)
  AreOrdered-unnamed_from [] n places ordered = ordered
  AreOrdered-unnamed_from (row ∷ rows) n places ordered = elim (cases_Bool (is_named places n)) as (λ _. AreOrdered key (unnamed_from n places (row ∷ rows))) [
    | inl named ↦ rw named (AreOrdered-unnamed_from rows (n + 1) places ordered.1)
    | inr free ↦ rw free (all_unnamed (λ later. IsTrue (comes_before key row later)) rows (n + 1) places ordered.0, AreOrdered-unnamed_from rows (n + 1) places ordered.1)
  ]

  -- what a removal keeps
  pub AreRows-without_named : (rows : List R) (places : List ℕ) → AreRows key rows → AreRows key (without_named places rows)
  AreRows-without_named rows places are = record {
    ordered = AreOrdered-unnamed_from rows 0 places are.ordered;
    few = omega (arith, are.few, length-unnamed_from rows 0 places);
  }

  module _ (change : R → R) (same : (row : R) → key (change row) ≡ key row) where
    key_of_changed : (row : R) (b : Bool) → key (cond b (change row) row) ≡ key row
    key_of_changed row true = same row
    key_of_changed row false = refl

    all_changed : (row new : R) (rows : List R) (n : ℕ) (places : List ℕ) → key new ≡ key row → AllByRecursion (λ later. IsTrue (comes_before key row later)) rows → AllByRecursion (λ later. IsTrue (comes_before key new later)) (changed_from change n places rows)
    all_changed row new [] n places is all = all
    all_changed row new (other ∷ rows) n places is all =
        (rw (is, key_of_changed other (is_named places n)) all.0, all_changed row new rows (n + 1) places is all.1)

    AreOrdered-changed_from : (rows : List R) (n : ℕ) (places : List ℕ) → AreOrdered key rows → AreOrdered key (changed_from change n places rows)
    AreOrdered-changed_from [] n places ordered = ordered
    AreOrdered-changed_from (row ∷ rows) n places ordered = (
      all_changed row (cond (is_named places n) (change row) row) rows (n + 1) places (key_of_changed row (is_named places n)) ordered.0,
      AreOrdered-changed_from rows (n + 1) places ordered.1,
    )

    -- what a change of flags keeps
    pub AreRows-with_named_changed : (rows : List R) (places : List ℕ) → AreRows key rows → AreRows key (with_named_changed change places rows)
    AreRows-with_named_changed rows places are = record {
      ordered = AreOrdered-changed_from rows 0 places are.ordered;
      few = omega (arith, are.few, length-changed_from change rows 0 places);
    }
