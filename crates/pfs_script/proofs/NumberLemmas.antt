-- The number that a numeral writes.
use Rattle.std.proofs.Common.{ℕ, ◌≡◌, ◌<◌, ◌^◌, ◌∙◌, true, ◌&&◌, nat_lt, List, [], ◌∷◌, length, Option, Some, None, ap, arith}
use Rattle.std.specs.Option.{SomeIff}
use Rattle.std.specs.List.{list_all}
use Rattle.std.specs.Str.Parse.{AllDigits, IsNumeral, digits_value}
use Rattle.std.proofs.lemmas.Bool.Decides.{nat_tests}
use Rattle.pfs_lemmas.proofs.Bools.{and_first, and_second}
use Rattle.pfs_script.specs.Numerals.{is_digit, is_numeral, number_below, number_of}

all_digits : (text : List ℕ) → list_all is_digit text ≡ true → AllDigits 10 text
all_digits [] h = tt
all_digits (byte ∷ bytes) h =
    let this = and_first (is_digit byte) (list_all is_digit bytes) h in
    (grind (arith, nat_tests, this), all_digits bytes (and_second (is_digit byte) (list_all is_digit bytes) h))

numeral : (text : List ℕ) → is_numeral text ≡ true → IsNumeral 10 text
unfolding is_numeral
numeral text h =
    let some = and_first (nat_lt 0 (length text)) (list_all is_digit text) h in
    (grind (arith, nat_tests, some), all_digits text (and_second (nat_lt 0 (length text)) (list_all is_digit text) h))

below : (value : ℕ) (number : Option ℕ) (P : Type 0) → P → SomeIff number (P × (value < 2 ^ 64)) value → number ≡ number_below value
below value None P p h =
    let large : value < 2 ^ 64 → ⊥ = λ small. h (p, small) in
    grind (arith, nat_tests, large)
below value (Some number) P p h =
    let small = h.0.1 in
    ap Some h.1 ∙ grind (arith, nat_tests, small)

-- what is read of a numeral is its number
pub number_read : (text : List ℕ) (number : Option ℕ) → is_numeral text ≡ true → SomeIff number (IsNumeral 10 text × (digits_value 10 text < 2 ^ 64)) (digits_value 10 text) → Some number ≡ number_of text
unfolding number_of
number_read text number h read = rw h (ap Some (below (digits_value 10 text) number (IsNumeral 10 text) (numeral text h) read))
