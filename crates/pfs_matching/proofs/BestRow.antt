-- The row that decides fits best.
use Rattle.std.proofs.Common.{◌≡◌, ℕ, ◌<◌, ◌⊎◌, inl, inr, zero, suc, Bool, true, false, List, [], ◌∷◌, length, get_or, Contains, Option, Some, None, sym, subst, ap, ◌∙◌, refl, arith}
use Rattle.std.specs.List.{find}
use Rattle.std.specs.Option.{option_map, option_or}
use Rattle.std.proofs.lemmas.Bool.{cases_Bool}
use Rattle.std.proofs.lemmas.Option.{same_Some}
use Rattle.pfs_matching.specs.RowWays.{Decides, FitsBest, first_match, fit, flags_or_off}

-- the number of a way, behind one more
suc_of : (o : Option ℕ) (m : ℕ) → option_map suc o ≡ Some m → (n : ℕ) × (o ≡ Some n) × (m ≡ suc n)
suc_of None m e = cc
suc_of (Some n) m e = (n, refl, sym (same_Some (suc n) m e))

none_of : (o : Option ℕ) → o ≡ None → option_map suc o ≡ None
none_of o e = ap (λ p. option_map suc p) e

module _ {R : Type 0} where
  -- what is found is there and passes
  pub found_there : (p : R → Bool) (rows : List R) (row : R) → find p rows ≡ Some row → Contains rows row × (p row ≡ true)
  found_there p [] row found = cc
  found_there p (r ∷ rows) row found = elim (cases_Bool (p r)) [
    | inl passes ↦ let is : r ≡ row = same_Some r row (rw passes at found) in ((zero, omega arith, is), subst (λ o. p o ≡ true) is passes)
    | inr differs ↦ let later = found_there p rows row (rw differs at found) in ((suc later.0.0, omega (arith, later.0.1), later.0.2), later.1)
  ]

  -- where nothing is found, nothing passes
  none_passes : (p : R → Bool) (rows : List R) → find p rows ≡ None → (k : ℕ) (other : R) → k < length rows → get_or rows k other ≡ other → p other ≡ false
  none_passes p [] none k other within is = absurd (omega arith)
  none_passes p (r ∷ rows) none zero other within is = elim (cases_Bool (p r)) [
    | inl passes ↦ let clash : Some r ≡ None = rw passes at none in cc
    | inr differs ↦ subst (λ o. p o ≡ false) is differs
  ]
  none_passes p (r ∷ rows) none (suc k) other within is = elim (cases_Bool (p r)) [
    | inl passes ↦ let clash : Some r ≡ None = rw passes at none in cc
    | inr differs ↦ none_passes p rows (rw differs at none) k other (omega arith) is
  ]

-- rows of which the first that has a way leads the others that have it
module _ {R : Type 0} (has : List ℕ × List ℕ → R → Bool) (Leads : R → R → Type 0) (flags : R → Bool × Bool) (rows : List R) (leads : (way : List ℕ × List ℕ) (row other : R) → find (has way) rows ≡ Some row → Contains rows other → has way other ≡ true → Leads row other) where
  -- what the ways decide, one way more
  abbrev Matches : List (List ℕ × List ℕ) → Option R → Type 0
  Matches ways (Some row) = FitsBest has Leads ways rows row
  Matches ways None = (other : R) → Contains rows other → fit has ways other ≡ None

  fits_first : (way : List ℕ × List ℕ) (ways : List (List ℕ × List ℕ)) (row : R) → find (has way) rows ≡ Some row → FitsBest has Leads (way ∷ ways) rows row
  fits_first way ways row found = record {
    there = here.0;
    number = zero;
    fits = rw here.1 refl;
    best = best;
  }
    where
      here : Contains rows row × (has way row ≡ true)
      here = found_there (has way) rows row found

      best : (other : R) (m : ℕ) → Contains rows other → fit has (way ∷ ways) other ≡ Some m → (zero < m) ⊎ ((zero ≡ m) × Leads row other)
      best other m there fits = elim (cases_Bool (has way other)) [
        | inl same ↦
            let is : zero ≡ m = same_Some zero m (rw same at fits) in
            inr (is, leads way row other found there same)
        | inr differs ↦
            let later = suc_of (fit has ways other) m (rw differs at fits) in
            inl (omega (arith, later.2))
      ]

  fits_later : (way : List ℕ × List ℕ) (ways : List (List ℕ × List ℕ)) (row : R) → find (has way) rows ≡ None → FitsBest has Leads ways rows row → FitsBest has Leads (way ∷ ways) rows row
  fits_later way ways row none later = record {
    there = later.there;
    number = suc later.number;
    fits = rw (none_passes (has way) rows none later.there.0 row later.there.1 later.there.2) (ap (λ o. option_map suc o) later.fits);
    best = best;
  }
    where
      best : (other : R) (m : ℕ) → Contains rows other → fit has (way ∷ ways) other ≡ Some m → (suc later.number < m) ⊎ ((suc later.number ≡ m) × Leads row other)
      best other m there fits =
          let differs = none_passes (has way) rows none there.0 other there.1 there.2 in
          let found = suc_of (fit has ways other) m (rw differs at fits) in
          elim (later.best other found.0 there found.1) [
            | inl worse ↦ inl (omega (arith, found.2))
            | inr (same, least) ↦ inr (ap suc same ∙ sym found.2, least)
          ]

  matches_by : (way : List ℕ × List ℕ) (ways : List (List ℕ × List ℕ)) (o rest : Option R) → find (has way) rows ≡ o → Matches ways rest → Matches (way ∷ ways) (option_or o rest)
  matches_by way ways (Some row) rest found later = fits_first way ways row found
  matches_by way ways None (Some row) none later = fits_later way ways row none later
  matches_by way ways None None none later = λ other there.
      rw (none_passes (has way) rows none there.0 other there.1 there.2) (none_of (fit has ways other) (later other there))

  matches : (ways : List (List ℕ × List ℕ)) → Matches ways (first_match has ways rows)
  matches [] = λ other there. refl
  matches (way ∷ ways) = matches_by way ways (find (has way) rows) (first_match has ways rows) refl (matches ways)

  -- the flags are those of the row that fits best, or NO and NO
  decides_by : (ways : List (List ℕ × List ℕ)) (o : Option R) → first_match has ways rows ≡ o → Matches ways o
      → Decides has Leads flags ways rows (flags_or_off (option_map flags (first_match has ways rows)))
  decides_by ways (Some row) found fits = inl (row, fits, ap (λ (o : Option R). flags_or_off (option_map flags o)) found)
  decides_by ways None none fits = inr (fits, ap (λ (o : Option R). flags_or_off (option_map flags o)) none)

  pub decides_best : (ways : List (List ℕ × List ℕ)) → Decides has Leads flags ways rows (flags_or_off (option_map flags (first_match has ways rows)))
  decides_best ways = decides_by ways (first_match has ways rows) refl (matches ways)
