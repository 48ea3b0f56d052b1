-- One reading more, for the contents of rows.
use Rattle.std.proofs.Common.{ℕ, ◌≡◌, ◌+◌, ◌-◌, ◌<◌, ◌≤◌, Bool, true, false, cond, List, [], ◌∷◌, ◌++◌, length, get_or, set, map, take, drop, append-nil, Option, Some, None, refl, sym, ap, ◌∙◌, inl, inr, arith, eqb, leb}
use Rattle.std.specs.Prelude.{reverse, find, option_and_then}
use Rattle.std.specs.List.{range_with_len}
use Rattle.std.proofs.lemmas.List.{reverse-append, ext_get_or, get_or-set_same, get_or-set_other, length-set, take_more, drop_all, take_all}
use Rattle.std.proofs.lemmas.List.FromFn.{length-map-range_with_len, get_or-map-range_with_len}
use Rattle.std.proofs.lemmas.Bool.{cases_eq, cases_lt, eq-eqb, ne_eqb, le-leb, lt-leb, cond-true, cond-false}
use Rattle.pfs_rows.specs.declared.table.Reading.{Reading}
use Rattle.pfs_rows.specs.declared.table.Reading.TheVariants.{Slot, Word}
use Rattle.pfs_summaries.specs.FoundContents.{is_reading_of, content_in, content_at, contents_of, whole_of}
use Rattle.pfs_summaries.specs.ReadingSteps.{with_reading}

picked : (b : Bool) (reading : Reading) (rest : Option Reading) → option_and_then content_in (cond b (Some reading) rest) ≡ cond b (content_in reading) (option_and_then content_in rest)
picked true reading rest = refl
picked false reading rest = refl

-- the last reading of a row counts
pub content_push : (readings : List Reading) (reading : Reading) (row : ℕ) → content_at (readings ++ reading ∷ []) row ≡ cond (is_reading_of row reading) (content_in reading) (content_at readings row)
content_push readings reading row =
    ap (λ (rs : List Reading). option_and_then content_in (find (is_reading_of row) rs)) (reverse-append readings (reading ∷ []))
    ∙ picked (is_reading_of row reading) reading (find (is_reading_of row) (reverse readings))

-- contents with one row's written
written : (row first i : ℕ) (v : Option (List ℕ)) (old : List (Option (List ℕ))) → first ≤ row → i < length old → get_or (set old (row - first) v) i None ≡ cond (eqb row (first + i)) v (get_or old i None)
written row first i v old low h =
    elim (cases_eq row (first + i)) [
      | inl e ↦
          (let at : row - first ≡ i = omega arith in
          let same : get_or (set old i v) i None ≡ v = get_or-set_same old i v None h in
          ap (λ k. get_or (set old k v) i None) at ∙ (same ∙ sym (cond-true (eqb row (first + i)) v (get_or old i None) (eq-eqb row (first + i) e))))
      | inr n ↦
          (let other : i ≡ row - first → ⊥ = λ e. n (omega arith) in
          get_or-set_other old (row - first) i v None other ∙ sym (cond-false (eqb row (first + i)) v (get_or old i None) (ne_eqb row (first + i) n)))
    ]

-- a list that has a row's content at each place
made : (f : ℕ → Option (List ℕ)) (first count : ℕ) (xs : List (Option (List ℕ))) → length xs ≡ count → ((i : ℕ) → i < count → get_or xs i None ≡ f (first + i)) → xs ≡ map f (range_with_len first count)
made f first count xs e same =
    ext_get_or None xs (map f (range_with_len first count)) (e ∙ sym (length-map-range_with_len f first count))
    (λ i h. let below : i < count = omega arith in same i below ∙ sym (get_or-map-range_with_len f first count i (first + i) None below refl))

-- what is there, by row
at_row : (readings : List Reading) (first count i : ℕ) → i < count → get_or (contents_of first count readings) i None ≡ content_at readings (first + i)
at_row readings first count i h = get_or-map-range_with_len (content_at readings) first count i (first + i) None h refl

pub contents_push : (first count : ℕ) (readings : List Reading) (reading : Reading) → with_reading first reading (contents_of first count readings) ≡ contents_of first count (readings ++ reading ∷ [])
contents_push first count readings (Word word version flags) =
    made (content_at (readings ++ Word word version flags ∷ [])) first count (contents_of first count readings) (length-map-range_with_len (content_at readings) first count)
    (λ i h. at_row readings first count i h ∙ sym (content_push readings (Word word version flags) (first + i)))
contents_push first count readings (Slot row seen) =
    let old = contents_of first count readings in
    let long : length old ≡ count = length-map-range_with_len (content_at readings) first count in
    elim (cases_lt row first) [
      | inl low ↦
          (let off : leb first row ≡ false = lt-leb first row low in
          cond-false (leb first row) (set old (row - first) (whole_of seen)) old off
          ∙ made (content_at (readings ++ Slot row seen ∷ [])) first count old long
          (λ i h.
          let n : row ≡ first + i → ⊥ = λ e. omega arith in
          at_row readings first count i h
          ∙ sym (content_push readings (Slot row seen) (first + i) ∙ cond-false (eqb row (first + i)) (whole_of seen) (content_at readings (first + i)) (ne_eqb row (first + i) n))))
      | inr low ↦
          (let on : leb first row ≡ true = le-leb first row low in
          cond-true (leb first row) (set old (row - first) (whole_of seen)) old on
          ∙ made (content_at (readings ++ Slot row seen ∷ [])) first count (set old (row - first) (whole_of seen)) (length-set old (row - first) (whole_of seen) ∙ long)
          (λ i h.
          let below : i < length old = omega arith in
          written row first i (whole_of seen) old low below
          ∙ (ap (λ (o : Option (List ℕ)). cond (eqb row (first + i)) (whole_of seen) o) (at_row readings first count i h)
          ∙ sym (content_push readings (Slot row seen) (first + i)))))
    ]

-- a slice that was written is all that the list has
pub written_back : {X : Type 0} (new old : List X) (n : ℕ) → n ≡ length old → length new ≡ length old → take n (new ++ drop (length new) old) ≡ new
written_back {X} new old n e same =
    ap (λ (z : List X). take n (new ++ z)) (drop_all (length new) old (omega arith))
    ∙ (ap (take n) (append-nil new) ∙ take_all n new (omega arith))

-- the step of the loop
pub contents_more : (first count : ℕ) (readings : List Reading) (i : ℕ) (d : Reading) (before slice written : List (Option (List ℕ))) (n : ℕ) → i < length readings → before ≡ contents_of first count (take i readings)
    → slice ≡ before → written ≡ with_reading first (get_or readings i d) slice → length written ≡ length slice → n ≡ length before
    → take n (written ++ drop (length written) before) ≡ contents_of first count (take (i + 1) readings)
contents_more first count readings i d before slice written n h b s w l e =
    written_back written before n e (l ∙ ap length s)
    ∙ (w ∙ (ap (with_reading first (get_or readings i d)) (s ∙ b)
    ∙ (contents_push first count (take i readings) (get_or readings i d)
    ∙ ap (contents_of first count) (sym (take_more readings i d h)))))

-- before the first reading nothing is known
pub contents_none : (first count : ℕ) (xs : List (Option (List ℕ))) → length xs ≡ count → ((i : ℕ) → i < count → get_or xs i None ≡ None) → xs ≡ contents_of first count []
contents_none first count xs e same = made (content_at []) first count xs e same
