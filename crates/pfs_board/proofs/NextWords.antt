-- The words of a board grow by a row.
use Rattle.std.proofs.Common.{◌≡◌, ◌⊎◌, ℕ, zero, suc, ◌+◌, ◌-◌, ◌*◌, ◌<◌, Bool, true, false, List, [], ◌∷◌, ◌++◌, length, get_or, drop, refl, sym, ap, ◌∙◌, inl, inr, arith, append_assoc, length-append}
use Rattle.std.proofs.lemmas.Bool.{cases_eq}
use Rattle.std.proofs.Math.ListN.{get_or-append}
use Rattle.std.proofs.Math.Seq.{get_or-append_right}
use Rattle.pfs_board.specs.declared.answers.Opening.{Opening}
use Rattle.pfs_board.specs.OpeningWords.{IsOpening, lock_of, words_of, opening_words, row_of}

-- behind the rows so far stands the next
next_words : (rows : List Opening) (n : ℕ) → n < length rows
    → words_of (drop n rows) ≡ lock_of (row_of rows n) ∷ (row_of rows n).content ++ words_of (drop (suc n) rows)
next_words [] n low = absurd (omega (arith, low))
next_words (o ∷ os) zero low = refl
next_words (o ∷ os) (suc n) low = next_words os n (omega (arith, low))

pub words_on : (rows : List Opening) (words : List ℕ) (n : ℕ) → n < length rows → words ++ words_of (drop n rows) ≡ opening_words rows
    → (words ++ lock_of (row_of rows n) ∷ (row_of rows n).content) ++ words_of (drop (n + 1) rows) ≡ opening_words rows
words_on rows words n low so_far =
    let one_more : n + 1 ≡ suc n = omega arith in
    append_assoc words (lock_of (row_of rows n) ∷ (row_of rows n).content) (words_of (drop (n + 1) rows))
    ∙ (ap (λ (z : ℕ). words ++ ((lock_of (row_of rows n) ∷ (row_of rows n).content) ++ words_of (drop z rows))) one_more ∙ (ap (λ (z : List ℕ). words ++ z) (sym (next_words rows n low)) ∙ so_far))

lock_is : (o : Opening) → (lock_of o ≡ 0) ⊎ (lock_of o ≡ 2)
lock_is o = at o.allocated where
  at : (allocated : Bool) → (lock_of (record o { allocated = allocated }) ≡ 0) ⊎ (lock_of (record o { allocated = allocated }) ≡ 2)
  at true = inr refl
  at false = inl refl

pub opening_on : (o : Opening) (words : List ℕ) (n : ℕ) → IsOpening words n → length o.content ≡ 16 → IsOpening (words ++ lock_of o ∷ o.content) (n + 1)
opening_on o words n so_far wide = record {
  long = omega (arith, length-append words (lock_of o ∷ o.content), so_far.long, wide);
  locks = λ r low. elim (cases_eq r n) [
    | inr old ↦ elim (so_far.locks r (omega (arith, old, low))) [
      | inl e ↦ inl (get_or-append words (lock_of o ∷ o.content) 0 (17 * r) (omega (arith, old, low, so_far.long)) ∙ e)
      | inr e ↦ inr (get_or-append words (lock_of o ∷ o.content) 0 (17 * r) (omega (arith, old, low, so_far.long)) ∙ e)
    ]
    | inl new ↦ elim (lock_is o) [
      | inl e ↦ inl (last r new ∙ e)
      | inr e ↦ inr (last r new ∙ e)
    ]
  ];
} where
  last : (r : ℕ) → r ≡ n → get_or (words ++ lock_of o ∷ o.content) (17 * r) 0 ≡ lock_of o
  last r e =
      let none : 17 * r - length words ≡ 0 = omega (arith, e, so_far.long) in
      get_or-append_right words (lock_of o ∷ o.content) (17 * r) 0 (omega (arith, e, so_far.long)) ∙ ap (λ (k : ℕ). get_or (lock_of o ∷ o.content) k 0) none

pub first_words : (rows : List Opening) → 0 < length rows → (2 ∷ (row_of rows 0).content) ++ words_of (drop 1 rows) ≡ opening_words rows
first_words [] some = absurd (omega (arith, some))
first_words (o ∷ os) some = refl

pub first_opening : (content : List ℕ) → length content ≡ 16 → IsOpening (2 ∷ content) 1
first_opening content wide = opening_on (record { allocated = true; content = content }) [] 0 (record { long = refl; locks = λ r low. absurd (omega (arith, low)) }) wide

pub lock_then : (o : Opening) → o.allocated ≡ true → lock_of o ≡ 2
lock_then o e = ap (λ (b : Bool). lock_of (record o { allocated = b })) e

pub lock_else : (o : Opening) → o.allocated ≡ false → lock_of o ≡ 0
lock_else o e = ap (λ (b : Bool). lock_of (record o { allocated = b })) e
