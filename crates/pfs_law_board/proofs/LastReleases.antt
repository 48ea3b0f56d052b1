-- A row with a release at its last version is free.
use Rattle.std.proofs.Common.{ℕ, ◌≡◌, ◌+◌, ◌==◌, ◌<◌, ◌&&◌, nat_lt, not, Bool, true, false, cond, List, [], ◌∷◌, ◌++◌, slice_index, inl, inr, refl, ap, ◌∙◌, subst, arith, eq-eqb, ne_eqb}
use Rattle.std.specs.Prelude.{◌⊎◌}
use Rattle.std.proofs.lemmas.Bool.{cases_eq, cases_Bool, cond-false, cond-true}
use Rattle.pfs_board.specs.History.{IsChain, is_free, lock_at, step_of, version}
use Rattle.pfs_board.specs.declared.view.Change.{Change}
use Rattle.pfs_board_store.specs.RootActors.{ats_of}
use Rattle.pfs_levels.specs.JointCalls.{At, frees_at, one_if, opens_free, total}

and_no : (b : Bool) → (b && false) ≡ false
and_no true = refl
and_no false = refl

one_more : (h : At → ℕ) (b : Bool) (x : At) (xs : List At) → h x ≡ 0 → total h (cond b (x ∷ []) [] ++ xs) ≡ total h xs
unfolding total
one_more h true x xs e = omega (arith, e)
one_more h false x xs e = refl

module _ (start : List ℕ) (row : ℕ) where
  abbrev releases : ℕ → At → Bool
  releases k x = (x.row == row) && not x.puts && (x.version == k)

  abbrev entry : Change → At
  entry p = record { row = p.row; version = p.version; puts = p.puts }

  away : (k : ℕ) (p : Change) → (p.row ≡ row → ⊥) → one_if (releases k (entry p)) ≡ 0
  away k p apart = ap (λ b. one_if (b && not p.puts && (p.version == k))) (ne_eqb p.row row apart)

  below : (k : ℕ) (p : Change) → (p.version ≡ k → ⊥) → one_if (releases k (entry p)) ≡ 0
  below k p apart = ap (λ b. one_if (((p.row == row) && not p.puts) && b)) (ne_eqb p.version k apart) ∙ ap one_if (and_no ((p.row == row) && not p.puts))

  put_here : (k : ℕ) (p : Change) → p.puts ≡ true → one_if (releases k (entry p)) ≡ 0
  put_here k p puts = ap (λ b. one_if (((p.row == row) && not b) && (p.version == k))) puts ∙ ap (λ b. one_if (b && (p.version == k))) (and_no (p.row == row))

  here : (p : Change) (ps : List Change) → p.row ≡ row → version (p ∷ ps) row ≡ version ps row + step_of p
  here p ps is = cond-true (p.row == row) (version ps row + step_of p) (version ps row) (eq-eqb p.row row is)

  there : (p : Change) (ps : List Change) → (p.row ≡ row → ⊥) → version (p ∷ ps) row ≡ version ps row
  there p ps apart = cond-false (p.row == row) (version ps row + step_of p) (version ps row) (ne_eqb p.row row apart)

  -- no release is above the row's version
  none_above : (log : List Change) (k : ℕ) → IsChain start log → version log row < k → total (λ x. one_if (releases k x)) (ats_of log) ≡ 0
  unfolding total ats_of
  none_above [] k c high = refl
  none_above (p ∷ ps) k c high = elim (cases_eq p.row row) [
    | inl is ↦
        let same : p.version ≡ version ps row + step_of p = c.0.numbered ∙ ap (λ r. version ps r + step_of p) is in
        let v = here p ps is in
        one_more (λ x. one_if (releases k x)) (nat_lt 0 p.row) (entry p) (ats_of ps) (below k p (λ z. absurd (omega (arith, same, v, high, z)))) ∙ none_above ps k c.1 (omega (arith, high, v))
    | inr apart ↦
        one_more (λ x. one_if (releases k x)) (nat_lt 0 p.row) (entry p) (ats_of ps) (away k p apart) ∙ none_above ps k c.1 (omega (arith, high, there p ps apart))
  ]

  abbrev IsFreed : List Change → ℕ → Type 0
  IsFreed log k = 0 < frees_at (ats_of log) row k

  freed_put : (p : Change) (ps : List Change) → IsChain start ps → p.row ≡ row → p.puts ≡ true → IsFreed (p ∷ ps) (version (p ∷ ps) row) → is_free start (p ∷ ps) row ≡ true
  unfolding total ats_of
  freed_put p ps c is puts up =
      let k : ℕ = version (p ∷ ps) row in
      let v : k ≡ version ps row + 1 = here p ps is ∙ ap (λ b. version ps row + cond {A = ℕ} b 1 0) puts in
      let sum = one_more (λ x. one_if (releases k x)) (nat_lt 0 p.row) (entry p) (ats_of ps) (put_here k p puts) in
      let rest = none_above ps k c (omega (arith, v)) in
      let later : one_if ((k == 0) && opens_free row) ≡ 0 = ap (λ b. one_if (b && opens_free row)) (ne_eqb k 0 (λ z. absurd (omega (arith, v, z)))) in
      absurd (omega (arith, up, sum, rest, later))

  freed_here : (p : Change) (ps : List Change) → IsChain start ps → p.row ≡ row → (p.puts ≡ true) ⊎ (p.puts ≡ false) → IsFreed (p ∷ ps) (version (p ∷ ps) row) → is_free start (p ∷ ps) row ≡ true
  freed_here p ps c is (inr frees) up = cond-true (p.row == row) (not p.puts) (is_free start ps row) (eq-eqb p.row row is) ∙ ap not frees
  freed_here p ps c is (inl puts) up = freed_put p ps c is puts up

  freed_before : (p : Change) (ps : List Change) → (p.row ≡ row → ⊥) → IsFreed (p ∷ ps) (version (p ∷ ps) row) → IsFreed ps (version ps row)
  unfolding total ats_of
  freed_before p ps apart up =
      let k : ℕ = version (p ∷ ps) row in
      let sum = one_more (λ x. one_if (releases k x)) (nat_lt 0 p.row) (entry p) (ats_of ps) (away k p apart) in
      let old : IsFreed ps k = omega (arith, up, sum) in
      subst (IsFreed ps) (there p ps apart) old

  freed_first : (b : Bool) → opens_free row ≡ b → (opens_free row ≡ true → slice_index start (lock_at row) ≡ 0) → IsFreed [] 0 → (slice_index start (lock_at row) == 0) ≡ true
  unfolding total ats_of
  freed_first true e begins up = eq-eqb (slice_index start (lock_at row)) 0 (begins e)
  freed_first false e begins up = absurd (omega (arith, up, ap (λ b. one_if ((0 == 0) && b)) e))

  pub freed : (log : List Change) → IsChain start log → (opens_free row ≡ true → slice_index start (lock_at row) ≡ 0) → IsFreed log (version log row) → is_free start log row ≡ true
  freed [] c begins up = freed_first (opens_free row) refl begins up
  freed (p ∷ ps) c begins up = elim (cases_eq p.row row) [
    | inl is ↦ freed_here p ps c.1 is (cases_Bool p.puts) up
    | inr apart ↦ cond-false (p.row == row) (not p.puts) (is_free start ps row) (ne_eqb p.row row apart) ∙ freed ps c.1 begins (freed_before p ps apart up)
  ]
