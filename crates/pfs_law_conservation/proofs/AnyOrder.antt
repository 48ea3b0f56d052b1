-- What is made of the changes of a row is made of its lines in any order, where the order of the steps is of no account.
use Rattle.std.proofs.Common.{◌≡◌, refl, ℕ, zero, suc, ◌+◌, ◌≤◌, ◌==◌, ◌&&◌, ◌||◌, Bool, true, false, cond, nat_lt, nat_le, List, [], ◌∷◌, ◌++◌, fold, sym, ap, ◌∙◌, arith}
use Rattle.std.proofs.lemmas.List.Sums.{fold-append}
use Rattle.std.proofs.lemmas.Bool.{eqb-true}
use Rattle.pfs_conservation.specs.RowChains.{Change}
use Rattle.pfs_conservation.specs.PrintedChanges.{Tagged, change_of, is_at, standing, chain_from}
use Rattle.pfs_model.specs.Chains.{Each}

module _ {A : Type 0} (step : A → Change → A) (row : ℕ) (swapped : (here : A) (c d : Change) → step (step here c) d ≡ step (step here d) c) where
  later : (c : Change) (cs : List Change) (here : A) → fold step (step here c) cs ≡ step (fold step here cs) c
  later c [] here = refl
  later c (d ∷ cs) here = ap (λ x. fold step x cs) (swapped here c d) ∙ later c cs (step here d)

  -- the line is of the row, with one of so many versions from this one on
  abbrev ranged : Tagged → ℕ → ℕ → Bool
  ranged line version more = (line.row == row) && (nat_le version line.version && nat_lt line.version (version + more))

  -- the order of the lines is of no account
  one_line : (line : Tagged) (lines : List Tagged) (version more : ℕ) (here : A)
      → fold step here (chain_from (line ∷ lines) row version more) ≡ fold step (cond (ranged line version more) (step here (change_of line)) here) (chain_from lines row version more)
  one_line line lines version zero here = sym (ap (λ b. cond b (step here (change_of line)) here) (none (line.row == row) version line.version)) where
    none : (b : Bool) (v w : ℕ) → (b && (nat_le v w && nat_lt w (v + 0))) ≡ false
    none true v w = grind arith
    none false v w = refl
  one_line line lines version (suc more) here =
      at (is_at line row version) (ranged line (suc version) more) (ranged line version (suc more)) (either (line.row == row) version line.version more) (neither (line.row == row) version line.version more)
      (λ there. one_line line lines (suc version) more there) where
        either : (b : Bool) (v w m : ℕ) → (b && (nat_le v w && nat_lt w (v + suc m))) ≡ ((b && (w == v)) || (b && (nat_le (suc v) w && nat_lt w (suc v + m))))
        either true v w m = grind arith
        either false v w m = refl

        neither : (b : Bool) (v w m : ℕ) → ((b && (w == v)) && (b && (nat_le (suc v) w && nat_lt w (suc v + m)))) ≡ false
        neither true v w m = grind arith
        neither false v w m = refl

        c : Change
        c = change_of line

        at : (x y z : Bool) → z ≡ (x || y) → (x && y) ≡ false
            → ((there : A) → fold step there (chain_from (line ∷ lines) row (suc version) more) ≡ fold step (cond y (step there (change_of line)) there) (chain_from lines row (suc version) more))
            → fold step here ((cond x (change_of line ∷ []) [] ++ standing lines row version) ++ chain_from (line ∷ lines) row (suc version) more)
            ≡ fold step (cond z (step here (change_of line)) here) (standing lines row version ++ chain_from lines row (suc version) more)
        at true false true e f ih =
            fold-append step (step here (change_of line)) (standing lines row version) (chain_from (line ∷ lines) row (suc version) more)
            ∙ (ih (fold step (step here (change_of line)) (standing lines row version))
            ∙ sym (fold-append step (step here (change_of line)) (standing lines row version) (chain_from lines row (suc version) more)))
        at false true true e f ih =
            fold-append step here (standing lines row version) (chain_from (line ∷ lines) row (suc version) more)
            ∙ (ih (fold step here (standing lines row version))
            ∙ (ap (λ x. fold step x (chain_from lines row (suc version) more)) (sym (later (change_of line) (standing lines row version) here))
            ∙ sym (fold-append step (step here (change_of line)) (standing lines row version) (chain_from lines row (suc version) more))))
        at false false false e f ih =
            fold-append step here (standing lines row version) (chain_from (line ∷ lines) row (suc version) more)
            ∙ (ih (fold step here (standing lines row version))
            ∙ sym (fold-append step here (standing lines row version) (chain_from lines row (suc version) more)))
        at true true z e f ih = absurd (cc)
        at true false false e f ih = absurd (cc)
        at false true false e f ih = absurd (cc)
        at false false true e f ih = absurd (cc)

  abbrev pub of_line : A → Tagged → A
  of_line here line = cond (line.row == row) (step here (change_of line)) here

  pub chain_lines : (count : ℕ) (lines : List Tagged) → Each (λ (line : Tagged). line.row ≡ row → (1 ≤ line.version) × (line.version ≤ count)) lines
      → (here : A) → fold step here (chain_from lines row 1 count) ≡ fold of_line here lines
  chain_lines count [] h here = none 1 count where
    none : (version more : ℕ) → fold step here (chain_from [] row version more) ≡ here
    none version zero = refl
    none version (suc more) = none (suc version) more
  chain_lines count (line ∷ lines) h here =
      one_line line lines 1 count here
      ∙ (ap (λ b. fold step (cond b (step here (change_of line)) here) (chain_from lines row 1 count)) (at (line.row == row) refl)
      ∙ chain_lines count lines h.1 (of_line here line)) where
        both : (v n : ℕ) → 1 ≤ v → v ≤ n → (nat_le 1 v && nat_lt v (1 + n)) ≡ true
        both v n l m = grind arith

        at : (b : Bool) → (line.row == row) ≡ b → (b && (nat_le 1 line.version && nat_lt line.version (1 + count))) ≡ b
        at true q = let r : (1 ≤ line.version) × (line.version ≤ count) = h.0 (eqb-true line.row row q) in both line.version count r.0 r.1
        at false q = refl
