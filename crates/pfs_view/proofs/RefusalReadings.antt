-- A refusal is read out of its line.
use Rattle.std.proofs.Common.{ℕ, ◌≡◌, ◌+◌, ◌-◌, ◌<◌, Bool, true, cond, List, [], ◌∷◌, ◌++◌, Bor, length, take, drop, refl, sym, ap, subst, ◌∙◌, append_assoc, arith}
use Rattle.std.specs.Prelude.{◌≢◌, ◌^◌, MatchOption, Option, Some, None, codes, decimal}
use Rattle.std.specs.Char.{digit_value}
use Rattle.std.specs.List.{prefix_len}
use Rattle.std.specs.Str.Parse.{AllDigits, IsNumeral, digits_value}
use Rattle.std.proofs.Math.Seq.{drop-append_seam, take-append_seam}
use Rattle.std.proofs.lemmas.Bool.Decides.{nat_tests}
use Rattle.std.proofs.lemmas.List.{append_cancel_left, length-drop, take_all}
use Rattle.std.proofs.lemmas.Fmt.{decimal_is_IsNumeral}
use Rattle.pfs_view.specs.NumberFronts.{BeginsPlain, is_digit}
use Rattle.pfs_view.specs.Refusals.{faulty_line, refusal_line, why_faulty}

digit_is : (b : ℕ) → digit_value b < 10 → is_digit b ≡ true
digit_is b h = grind (arith, nat_tests)

-- digits in front of a text with none in front
front_length : (digits rest : List ℕ) → AllDigits 10 digits → BeginsPlain rest → prefix_len is_digit (digits ++ rest) ≡ length digits
front_length [] [] all plain = refl
front_length [] (b ∷ rest) all plain = ap (λ (v : Bool). cond v (1 + prefix_len is_digit rest) 0) plain
front_length (d ∷ digits) rest all plain =
    let more : prefix_len is_digit (digits ++ rest) ≡ length digits = front_length digits rest all.1 plain in
    let one : 1 + prefix_len is_digit (digits ++ rest) ≡ length (d ∷ digits) = omega (arith, more) in
    ap (λ (v : Bool). cond v (1 + prefix_len is_digit (digits ++ rest)) 0) (digit_is d all.0) ∙ one

-- as many as there are from a place on are all of them
pub to_the_end : (text : List ℕ) (i : ℕ) → take (length text - i) (drop i text) ≡ drop i text
to_the_end text i = take_all (length text - i) (drop i text) (omega (arith, length-drop i text))

-- the number in front of a text, and what stands behind it
pub front_cut : (text rest : List ℕ) (number end : ℕ) → number < 2 ^ 64 → BeginsPlain rest → text ≡ decimal number ++ rest → end ≡ prefix_len is_digit text → (take end text ≡ decimal number) × (drop end text ≡ rest)
front_cut text rest number end fits plain is ended =
    let digits = decimal number in
    let all : AllDigits 10 digits = (decimal_is_IsNumeral number fits).0.1 in
    let size : end ≡ length digits = ended ∙ (ap (prefix_len is_digit) is ∙ front_length digits rest all plain) in
    (ap (λ (n : ℕ). take n text) size ∙ (ap (take (length digits)) is ∙ take-append_seam digits rest), ap (λ (n : ℕ). drop n text) size ∙ (ap (drop (length digits)) is ∙ drop-append_seam digits rest))

-- it is read again
pub front_read : (digits : List ℕ) (number : ℕ) → number < 2 ^ 64 → digits ≡ decimal number → IsNumeral 10 digits × (digits_value 10 digits < 2 ^ 64) × (digits_value 10 digits ≡ number)
front_read digits number fits is =
    let known = decimal_is_IsNumeral number fits in
    (subst (IsNumeral 10) (sym is) known.0, subst (λ (n : ℕ). n < 2 ^ 64) (sym (ap (digits_value 10) is ∙ known.1)) fits, ap (digits_value 10) is ∙ known.1)

-- what stands behind words that are in front
pub stripped : (text words rest : List ℕ) (r : Option (Bor (List ℕ))) → MatchOption r ((more : List ℕ) → text ≢ words ++ more) (λ x. text ≡ words ++ x.now) → text ≡ words ++ rest → MatchOption r ⊥ (λ x. x.now ≡ rest)
stripped text words rest None not is = not rest is
stripped text words rest (Some x) found is = append_cancel_left words x.now rest (sym found ∙ is)

-- the line of a refusal, from its front on
pub refusal_cut : (line reason : ℕ) → refusal_line line reason ≡ codes "bad script: line " ++ (decimal line ++ (codes " reason " ++ (decimal reason ++ codes "\n")))
unfolding refusal_line faulty_line why_faulty
refusal_cut line reason =
    append_assoc (codes "bad script: line ") (decimal line) ((codes " reason " ++ decimal reason) ++ codes "\n")
    ∙ ap (λ (z : List ℕ). codes "bad script: line " ++ (decimal line ++ z)) (append_assoc (codes " reason ") (decimal reason) (codes "\n"))
