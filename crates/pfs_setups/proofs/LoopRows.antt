-- Rows that a loop passes, one more at a time.
use Rattle.std.proofs.Common.{◌≡◌, ◌≢◌, ℕ, zero, suc, ◌+◌, ◌<◌, Bool, true, false, not, cond, eqb, List, [], ◌∷◌, ◌++◌, length, map, filter, take, drop, count_by, Some, refl, ap, sym, subst, ◌∙◌, arith}
use Rattle.std.specs.Prelude.{slice_get}
use Rattle.std.specs.List.{range_with_len}
use Rattle.std.proofs.lemmas.Bool.{ne_eqb}
use Rattle.std.proofs.lemmas.List.Sums.{sum_by-cons}
use Rattle.pfs_lemmas.proofs.Numbers.{eq_self}
use Rattle.pfs_matching.specs.KeyedRows.{changed_from, unnamed_from, with_named_changed, without_named}

count_cons : {X : Type 0} (test : X → Bool) (x : X) (xs : List X) → count_by test (x ∷ xs) ≡ cond (test x) 1 0 + count_by test xs
count_cons test x xs = sum_by-cons (λ y. cond (test y) 1 0) x xs

module _ {R : Type 0} where
  -- a place before the rows names none of them
  unnamed_past : (rows : List R) (n p : ℕ) → p < n → unnamed_from n (p ∷ []) rows ≡ rows
  unnamed_past [] n p past = refl
  unnamed_past (row ∷ rows) n p past =
      let differs : p ≢ n = omega arith in
      rw (ne_eqb p n differs) (ap (λ rs. row ∷ rs) (unnamed_past rows (n + 1) p (omega arith)))

  removed_at : (xs rest : List R) (n k p : ℕ) → p ≡ n + k → k < length xs → unnamed_from n (p ∷ []) (take (suc k) xs ++ rest) ≡ take k xs ++ rest
  removed_at [] rest n k p is within = absurd (omega arith)
  removed_at (x ∷ xs) rest n zero p is within =
      let here : p ≡ n = omega arith in
      let named : eqb p n ≡ true = subst (λ m. eqb p m ≡ true) here (eq_self p) in
      rw named (unnamed_past rest (n + 1) p (omega arith))
  removed_at (x ∷ xs) rest n (suc k) p is within =
      let differs : p ≢ n = omega arith in
      rw (ne_eqb p n differs) (ap (λ rs. x ∷ rs) (removed_at xs rest (n + 1) k p (omega arith) (omega arith)))

  kept_at : (xs rest : List R) (k : ℕ) (row : R) → k < length xs → slice_get (take (suc k) xs ++ rest) k ≡ Some row → slice_get xs k ≡ Some row
  kept_at [] rest k row within there = absurd (omega arith)
  kept_at (x ∷ xs) rest zero row within there = there
  kept_at (x ∷ xs) rest (suc k) row within there = kept_at xs rest k row (omega arith) there

  taken_at : (xs rest : List R) (k : ℕ) (row : R) → slice_get xs k ≡ Some row → take (suc k) xs ++ rest ≡ take k xs ++ (row ∷ rest)
  taken_at [] rest k row there = absurd (cc (there))
  taken_at (x ∷ xs) rest zero row there = ap (λ y. y ∷ rest) (cc (there))
  taken_at (x ∷ xs) rest (suc k) row there = ap (λ rs. x ∷ rs) (taken_at xs rest k row there)

  module _ (test : R → Bool) where
    left : R → Bool
    left row = not (test row)

    filtered_yes : (xs : List R) (k : ℕ) (row : R) → slice_get xs k ≡ Some row → test row ≡ true → filter (λ row. not (test row)) (drop k xs) ≡ filter (λ row. not (test row)) (drop (suc k) xs)
    filtered_yes [] k row there met = absurd (cc (there))
    filtered_yes (x ∷ xs) zero row there met = let is : test x ≡ true = cc (there, met) in rw is refl
    filtered_yes (x ∷ xs) (suc k) row there met = filtered_yes xs k row there met

    filtered_no : (xs : List R) (k : ℕ) (row : R) → slice_get xs k ≡ Some row → test row ≡ false → filter (λ row. not (test row)) (drop k xs) ≡ row ∷ filter (λ row. not (test row)) (drop (suc k) xs)
    filtered_no [] k row there met = absurd (cc (there))
    filtered_no (x ∷ xs) zero row there met = let is : test x ≡ false = cc (there, met) in rw is (ap (λ y. y ∷ filter (λ row. not (test row)) xs) (cc (there)))
    filtered_no (x ∷ xs) (suc k) row there met = filtered_no xs k row there met

    down_yes : (xs : List R) (k : ℕ) (row : R) → slice_get xs k ≡ Some row → test row ≡ true → count_by test (drop k xs) ≡ count_by test (drop (suc k) xs) + 1
    down_yes [] k row there met = absurd (cc (there))
    down_yes (x ∷ xs) zero row there met =
        let is : test x ≡ true = cc (there, met) in
        let swapped : 1 + count_by test xs ≡ count_by test xs + 1 = omega arith in
        count_cons test x xs ∙ (ap (λ b. cond b 1 0 + count_by test xs) is ∙ swapped)
    down_yes (x ∷ xs) (suc k) row there met = down_yes xs k row there met

    down_no : (xs : List R) (k : ℕ) (row : R) → slice_get xs k ≡ Some row → test row ≡ false → count_by test (drop k xs) ≡ count_by test (drop (suc k) xs)
    down_no [] k row there met = absurd (cc (there))
    down_no (x ∷ xs) zero row there met =
        let is : test x ≡ false = cc (there, met) in
        let nothing : 0 + count_by test xs ≡ count_by test xs = omega arith in
        count_cons test x xs ∙ (ap (λ b. cond b 1 0 + count_by test xs) is ∙ nothing)
    down_no (x ∷ xs) (suc k) row there met = down_no xs k row there met

    -- a step of a removal from the last row to the first: the row before those that were passed goes, or stays
    pub removes : (xs now : List R) (p k : ℕ) (row : R) → p ≡ suc k → k < length xs → now ≡ take p xs ++ filter (λ row. not (test row)) (drop p xs) → slice_get now k ≡ Some row → test row ≡ true
        → (without_named (k ∷ []) now ≡ take k xs ++ filter (λ row. not (test row)) (drop k xs)) × (count_by test (drop k xs) ≡ count_by test (drop p xs) + 1)
    removes xs now p k row next within is there met =
        let shape : now ≡ take (suc k) xs ++ filter (λ row. not (test row)) (drop (suc k) xs) = subst (λ m. now ≡ take m xs ++ filter (λ row. not (test row)) (drop m xs)) next is in
        let here : slice_get xs k ≡ Some row = kept_at xs (filter (λ row. not (test row)) (drop (suc k) xs)) k row within (subst (λ rs. slice_get rs k ≡ Some row) shape there) in (
          ap (λ rs. without_named (k ∷ []) rs) shape ∙ (removed_at xs (filter (λ row. not (test row)) (drop (suc k) xs)) 0 k k (omega arith) within ∙ ap (λ rs. take k xs ++ rs) (sym (filtered_yes xs k row here met))),
          subst (λ m. count_by test (drop k xs) ≡ count_by test (drop m xs) + 1) (sym next) (down_yes xs k row here met),
        )

    pub leaves : (xs now : List R) (p k : ℕ) (row : R) → p ≡ suc k → k < length xs → now ≡ take p xs ++ filter (λ row. not (test row)) (drop p xs) → slice_get now k ≡ Some row → test row ≡ false
        → (now ≡ take k xs ++ filter (λ row. not (test row)) (drop k xs)) × (count_by test (drop k xs) ≡ count_by test (drop p xs))
    leaves xs now p k row next within is there met =
        let shape : now ≡ take (suc k) xs ++ filter (λ row. not (test row)) (drop (suc k) xs) = subst (λ m. now ≡ take m xs ++ filter (λ row. not (test row)) (drop m xs)) next is in
        let here : slice_get xs k ≡ Some row = kept_at xs (filter (λ row. not (test row)) (drop (suc k) xs)) k row within (subst (λ rs. slice_get rs k ≡ Some row) shape there) in (
          shape ∙ (taken_at xs (filter (λ row. not (test row)) (drop (suc k) xs)) k row here ∙ ap (λ rs. take k xs ++ rs) (sym (filtered_no xs k row here met))),
          subst (λ m. count_by test (drop k xs) ≡ count_by test (drop m xs)) (sym next) (down_no xs k row here met),
        )

    up_yes : (xs : List R) (k : ℕ) (row : R) → slice_get xs k ≡ Some row → test row ≡ true → count_by test (take (suc k) xs) ≡ count_by test (take k xs) + 1
    up_yes [] k row there met = absurd (cc (there))
    up_yes (x ∷ xs) zero row there met = let is : test x ≡ true = cc (there, met) in ap (λ b. 0 + cond b 1 0) is
    up_yes (x ∷ xs) (suc k) row there met =
        let more = up_yes xs k row there met in
        let a = count_cons test x (take (suc k) xs) in
        let b = count_cons test x (take k xs) in
        let goal : count_by test (x ∷ take (suc k) xs) ≡ count_by test (x ∷ take k xs) + 1 = omega (arith, more, a, b) in
        goal

    up_no : (xs : List R) (k : ℕ) (row : R) → slice_get xs k ≡ Some row → test row ≡ false → count_by test (take (suc k) xs) ≡ count_by test (take k xs)
    up_no [] k row there met = absurd (cc (there))
    up_no (x ∷ xs) zero row there met = let is : test x ≡ false = cc (there, met) in ap (λ b. 0 + cond b 1 0) is
    up_no (x ∷ xs) (suc k) row there met =
        let more = up_no xs k row there met in
        let a = count_cons test x (take (suc k) xs) in
        let b = count_cons test x (take k xs) in
        let goal : count_by test (x ∷ take (suc k) xs) ≡ count_by test (x ∷ take k xs) = omega (arith, more, a, b) in
        goal

  -- of the rows the first k as a step makes them, the others as they were
  abbrev pub mixed : (R → R) → ℕ → List R → List R
  mixed step k xs = map step (take k xs) ++ drop k xs

  pub length-mixed : (step : R → R) (xs : List R) (k : ℕ) → length (mixed step k xs) ≡ length xs
  length-mixed step [] zero = refl
  length-mixed step [] (suc k) = refl
  length-mixed step (x ∷ xs) zero = refl
  length-mixed step (x ∷ xs) (suc k) = ap suc (length-mixed step xs k)

  module _ (change : R → R) where
    changed_past : (rows : List R) (n p : ℕ) → p < n → changed_from change n (p ∷ []) rows ≡ rows
    changed_past [] n p past = refl
    changed_past (row ∷ rows) n p past =
        let differs : p ≢ n = omega arith in
        rw (ne_eqb p n differs) (ap (λ rs. row ∷ rs) (changed_past rows (n + 1) p (omega arith)))

    module _ (step : R → R) where
      unpassed_at : (xs : List R) (k : ℕ) (row : R) → slice_get (mixed step k xs) k ≡ Some row → slice_get xs k ≡ Some row
      unpassed_at [] zero row there = there
      unpassed_at [] (suc k) row there = there
      unpassed_at (x ∷ xs) zero row there = there
      unpassed_at (x ∷ xs) (suc k) row there = unpassed_at xs k row there

      changed_at : (xs : List R) (n k p : ℕ) (row : R) → p ≡ n + k → slice_get xs k ≡ Some row → step row ≡ change row → changed_from change n (p ∷ []) (mixed step k xs) ≡ mixed step (suc k) xs
      changed_at [] n k p row is there makes = absurd (cc (there))
      changed_at (x ∷ xs) n zero p row is there makes =
          let here : p ≡ n = omega arith in
          let named : eqb p n ≡ true = subst (λ m. eqb p m ≡ true) here (eq_self p) in
          let same : change x ≡ step x = cc (there, makes) in
          rw (named, changed_past xs (n + 1) p (omega arith), same) refl
      changed_at (x ∷ xs) n (suc k) p row is there makes =
          let differs : p ≢ n = omega arith in
          rw (ne_eqb p n differs) (ap (λ rs. step x ∷ rs) (changed_at xs (n + 1) k p row (omega arith) there makes))

      stays_at : (xs : List R) (k : ℕ) (row : R) → slice_get xs k ≡ Some row → step row ≡ row → mixed step k xs ≡ mixed step (suc k) xs
      stays_at [] k row there makes = absurd (cc (there))
      stays_at (x ∷ xs) zero row there makes = ap (λ y. y ∷ xs) (cc (there, makes))
      stays_at (x ∷ xs) (suc k) row there makes = ap (λ rs. step x ∷ rs) (stays_at xs k row there makes)

      module _ (test : R → Bool) (makes : (row : R) → step row ≡ cond (test row) (change row) row) where
        -- a step of a change from the first row to the last: the next row is changed, or stays
        pub changes : (xs now : List R) (k : ℕ) (row : R) → now ≡ mixed step k xs → slice_get now k ≡ Some row → test row ≡ true
            → (with_named_changed change (k ∷ []) now ≡ mixed step (k + 1) xs) × (count_by test (take (k + 1) xs) ≡ count_by test (take k xs) + 1)
        changes xs now k row is there met =
            let here : slice_get xs k ≡ Some row = unpassed_at xs k row (subst (λ rs. slice_get rs k ≡ Some row) is there) in
            let new : step row ≡ change row = makes row ∙ ap (λ b. cond b (change row) row) met in
            let next : suc k ≡ k + 1 = omega arith in (
              ap (λ rs. with_named_changed change (k ∷ []) rs) is ∙ (changed_at xs 0 k k row (omega arith) here new ∙ ap (λ n. mixed step n xs) next),
              subst (λ n. count_by test (take n xs) ≡ count_by test (take k xs) + 1) next (up_yes test xs k row here met),
            )

        pub stays : (xs now : List R) (k : ℕ) (row : R) → now ≡ mixed step k xs → slice_get now k ≡ Some row → test row ≡ false
            → (now ≡ mixed step (k + 1) xs) × (count_by test (take (k + 1) xs) ≡ count_by test (take k xs))
        stays xs now k row is there met =
            let here : slice_get xs k ≡ Some row = unpassed_at xs k row (subst (λ rs. slice_get rs k ≡ Some row) is there) in
            let new : step row ≡ row = makes row ∙ ap (λ b. cond b (change row) row) met in
            let next : suc k ≡ k + 1 = omega arith in (
              is ∙ (stays_at xs k row here new ∙ ap (λ n. mixed step n xs) next),
              subst (λ n. count_by test (take n xs) ≡ count_by test (take k xs)) next (up_no test xs k row here met),
            )

-- numbers that a loop counts
count_more : (test : ℕ → Bool) (xs : List ℕ) (x : ℕ) → count_by test (xs ++ x ∷ []) ≡ count_by test xs + count_by test (x ∷ [])
count_more test [] x = omega arith
count_more test (y ∷ xs) x =
    let more = count_more test xs x in
    let a = count_cons test y (xs ++ x ∷ []) in
    let b = count_cons test y xs in
    let goal : count_by test (y ∷ (xs ++ x ∷ [])) ≡ count_by test (y ∷ xs) + count_by test (x ∷ []) = omega (arith, more, a, b) in
    goal

numbers_suc : (a n : ℕ) → range_with_len a (suc n) ≡ range_with_len a n ++ (a + n) ∷ []
numbers_suc a zero = let same : a ≡ a + 0 = omega arith in ap (λ (z : ℕ). z ∷ []) same
numbers_suc a (suc n) =
    let same : a + 1 + n ≡ a + suc n = omega arith in
    ap (λ (z : List ℕ). a ∷ z) (numbers_suc (a + 1) n ∙ ap (λ (z : ℕ). range_with_len (a + 1) n ++ z ∷ []) same)

pub counts : (test : ℕ → Bool) (n : ℕ) → count_by test (range_with_len 0 (n + 1)) ≡ count_by test (range_with_len 0 n) + cond (test n) 1 0
counts test n =
    let next : n + 1 ≡ suc n = omega arith in
    let same : 0 + n ≡ n = omega arith in
    let one : 0 + cond (test n) 1 0 ≡ cond (test n) 1 0 = omega arith in
    ap (λ (z : ℕ). count_by test (range_with_len 0 z)) next ∙ (ap (λ (xs : List ℕ). count_by test xs) (numbers_suc 0 n ∙ ap (λ (z : ℕ). range_with_len 0 n ++ z ∷ []) same)
    ∙ (count_more test (range_with_len 0 n) n ∙ ap (λ (z : ℕ). count_by test (range_with_len 0 n) + z) one))
