-- Where the opening words of a row stand.
use Rattle.std.proofs.Common.{◌≡◌, ℕ, zero, suc, ◌+◌, ◌*◌, ◌<◌, true, List, [], ◌∷◌, ◌++◌, length, get_or, refl, ap, ◌∙◌, arith}
use Rattle.std.proofs.Math.ListN.{get_or-append}
use Rattle.std.proofs.Math.Seq.{get_or-append_right}
use Rattle.pfs_board.specs.declared.answers.Opening.{Opening}
use Rattle.pfs_board.specs.OpeningWords.{lock_of, words_of, opening_words, row_of, AreWide, OpeningLaw}

-- behind the first row stands the next
past : (o : Opening) (os : List Opening) (k : ℕ) → length o.content ≡ 16 → get_or (words_of (o ∷ os)) (17 + k) 0 ≡ get_or (words_of os) k 0
past o os k w =
    let at : (n : ℕ) → n ≡ 16 + k → get_or (o.content ++ words_of os) n 0 ≡ get_or (words_of os) k 0 = λ n e. get_or-append_right o.content (words_of os) n 0 (omega (arith, w, e)) ∙ ap (λ z. get_or (words_of os) z 0) (omega (arith, w, e)) in
    step (16 + k) refl ∙ at (16 + k) refl where
      step : (n : ℕ) → n ≡ 16 + k → get_or (lock_of o ∷ o.content ++ words_of os) (17 + k) 0 ≡ get_or (o.content ++ words_of os) n 0
      step n e = let s : 17 + k ≡ suc n = omega (arith, e) in ap (λ z. get_or (lock_of o ∷ o.content ++ words_of os) z 0) s

lock_word : (rows : List Opening) (r : ℕ) → AreWide rows → r < length rows → get_or (words_of rows) (17 * r) 0 ≡ lock_of (row_of rows r)
lock_word [] r w h = absurd (omega (arith, h))
lock_word (o ∷ os) zero w h = refl
lock_word (o ∷ os) (suc r) w h =
    let e : 17 * suc r ≡ 17 + 17 * r = omega arith in
    ap (λ z. get_or (words_of (o ∷ os)) z 0) e ∙ (past o os (17 * r) w.0 ∙ lock_word os r w.1 (omega (arith, h)))

content_word : (rows : List Opening) (r i : ℕ) → AreWide rows → r < length rows → i < 16 → get_or (words_of rows) (17 * r + i + 1) 0 ≡ get_or (row_of rows r).content i 0
content_word [] r i w h low = absurd (omega (arith, h))
content_word (o ∷ os) zero i w h low =
    let wide : length o.content ≡ 16 = w.0 in
    let e : 17 * 0 + i + 1 ≡ suc i = omega arith in
    ap (λ z. get_or (words_of (o ∷ os)) z 0) e ∙ get_or-append o.content (words_of os) 0 i (omega (arith, wide, low))
content_word (o ∷ os) (suc r) i w h low =
    let e : 17 * suc r + i + 1 ≡ 17 + (17 * r + i + 1) = omega arith in
    ap (λ z. get_or (words_of (o ∷ os)) z 0) e ∙ (past o os (17 * r + i + 1) w.0 ∙ content_word os r i w.1 (omega (arith, h)) low)

pub opening_law : OpeningLaw
opening_law [] some w = absurd (omega (arith, some))
opening_law (o ∷ os) some w = record {
  first = refl;
  locks = λ r above h. locks r above h;
  contents = λ r i h low. contents r i h low;
} where
  own : List Opening
  own = record o { allocated = true } ∷ os

  locks : (r : ℕ) → 0 < r → r < length (o ∷ os) → get_or (opening_words (o ∷ os)) (17 * r) 0 ≡ lock_of (row_of (o ∷ os) r)
  locks zero above h = absurd (omega (arith, above))
  locks (suc r) above h = lock_word own (suc r) (w.0, w.1) h

  contents : (r i : ℕ) → r < length (o ∷ os) → i < 16 → get_or (opening_words (o ∷ os)) (17 * r + i + 1) 0 ≡ get_or (row_of (o ∷ os) r).content i 0
  contents zero i h low = content_word own zero i (w.0, w.1) h low
  contents (suc r) i h low = content_word own (suc r) i (w.0, w.1) h low
