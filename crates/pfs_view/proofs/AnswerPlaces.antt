-- Answers of rows, each shown once.
use Rattle.std.proofs.Common.{ℕ, zero, suc, ◌≡◌, ◌+◌, List, [], ◌∷◌, ◌++◌, refl, sym, ap, ◌∙◌, arith}
use Rattle.std.specs.List.{flat_map}
use Rattle.pfs_event.specs.declared.entry.Entry.{Entry}
use Rattle.pfs_event.specs.declared.entry.Entry.TheVariants as entry
use Rattle.pfs_view.specs.Grids.{first_of}
use Rattle.pfs_view.specs.TextOutcomes.{outcomes_from, outcomes_of, place_shown, rows_total}

first_same : {A : Type 0} (f g : ℕ → A) → ((k : ℕ) → f k ≡ g k) → (n : ℕ) → first_of f n ≡ first_of g n
first_same f g same zero = refl
first_same {A} f g same (suc n) =
    ap (λ (z : List A). z ++ f n ∷ []) (first_same f g same n) ∙ ap (λ (y : A). first_of g n ++ y ∷ []) (same n)

-- the first place and those behind it
first_behind : {A : Type 0} (f : ℕ → A) (n : ℕ) → first_of f (suc n) ≡ f 0 ∷ first_of (λ (k : ℕ). f (suc k)) n
first_behind f zero = refl
first_behind {A} f (suc n) = ap (λ (z : List A). z ++ f (suc n) ∷ []) (first_behind f n)

-- one entry more, behind so many answers
shown_more : (answers : ℕ) (one : Entry) (rest : List Entry)
    → ((n : ℕ) → flat_map place_shown (outcomes_from n rest) ≡ first_of (λ (k : ℕ). n + k) (rows_total rest))
    → flat_map place_shown (outcomes_from answers (one ∷ rest)) ≡ first_of (λ (k : ℕ). answers + k) (rows_total (one ∷ rest))
shown_more answers (entry.Rows number) rest behind =
    let next : first_of (λ (k : ℕ). (answers + 1) + k) (rows_total rest) ≡ first_of (λ (k : ℕ). answers + suc k) (rows_total rest) = first_same (λ (k : ℕ). (answers + 1) + k) (λ (k : ℕ). answers + suc k) (λ k. omega arith) (rows_total rest) in
    let here : answers ≡ answers + 0 = omega arith in
    ap (λ (z : List ℕ). answers ∷ z) (behind (answers + 1) ∙ next)
    ∙ (ap (λ (n : ℕ). n ∷ first_of (λ (k : ℕ). answers + suc k) (rows_total rest)) here
    ∙ sym (first_behind (λ (k : ℕ). answers + k) (rows_total rest)))
shown_more answers _ rest behind = behind answers

shown_from : (answers : ℕ) (entries : List Entry) → flat_map place_shown (outcomes_from answers entries) ≡ first_of (λ (k : ℕ). answers + k) (rows_total entries)
shown_from answers [] = refl
shown_from answers (one ∷ entries) = shown_more answers one entries (λ n. shown_from n entries)

-- the texts that rows answered are answered by the first answer, the second, and so on
pub shown_once : (entries : List Entry) → flat_map place_shown (outcomes_of entries) ≡ first_of (λ (place : ℕ). place) (rows_total entries)
unfolding outcomes_of
shown_once entries = shown_from 0 entries ∙ first_same (λ (k : ℕ). 0 + k) (λ (k : ℕ). k) (λ k. omega arith) (rows_total entries)
