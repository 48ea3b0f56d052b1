-- A word's number, as it is read.
use Rattle.std.proofs.Common.{◌≡◌, ℕ, ◌^◌, ◌<◌, Bool, true, false, cond, ltb, List, [], ◌∷◌, length, Option, Some, None, refl, ap, arith}
use Rattle.std.specs.Prelude.{◌&&◌}
use Rattle.std.specs.Char.{is_digit}
use Rattle.std.specs.List.{list_all}
use Rattle.std.specs.Option.{SomeIff}
use Rattle.std.specs.Str.Parse.{AllDigits, IsNumeral, digits_value}
use Rattle.std.proofs.lemmas.Bool.{ltb-true, and_parts}
use Rattle.std.proofs.lemmas.Bool.Decides.{nat_tests}
use Rattle.pfs_sql.specs.TokenWords.{number_of}

none_chosen : (b : Bool) (n : ℕ) → (b ≡ true → ⊥) → None ≡ cond b (Some n) None
none_chosen true n h = absurd (h refl)
none_chosen false n h = refl

pub digits_test : (ds : List ℕ) → AllDigits 10 ds → list_all (λ c. is_digit c 10) ds ≡ true
digits_test [] all = refl
digits_test (c ∷ cs) all =
    let here : is_digit c 10 ≡ true = grind (arith, nat_tests, all.0) in
    rw (here, digits_test cs all.1) refl

pub test_digits : (ds : List ℕ) → list_all (λ c. is_digit c 10) ds ≡ true → AllDigits 10 ds
test_digits [] h = tt
test_digits (c ∷ cs) h =
    let both = and_parts (is_digit c 10) (list_all (λ c. is_digit c 10) cs) h in
    (grind (arith, nat_tests, both.0), test_digits cs both.1)

pub number_read : (word : List ℕ) (r : Option ℕ) → SomeIff r (IsNumeral 10 word × (digits_value 10 word < 2 ^ 64)) (digits_value 10 word) → r ≡ number_of word
number_read word (Some n) h =
    let some : ltb 0 (length word) ≡ true = grind (arith, nat_tests, h.0.0.0) in
    let below : ltb (digits_value 10 word) (2 ^ 64) ≡ true = grind (arith, nat_tests, h.0.1) in
    rw (some, digits_test word h.0.0.1, below) (ap Some h.1)
number_read word None h = none_chosen _ _ (λ e.
    let both = and_parts (ltb 0 (length word) && list_all (λ c. is_digit c 10) word) (ltb (digits_value 10 word) (2 ^ 64)) e in
    let first = and_parts (ltb 0 (length word)) (list_all (λ c. is_digit c 10) word) both.0 in
    h ((ltb-true _ _ first.0, test_digits word first.1), ltb-true _ _ both.1))
