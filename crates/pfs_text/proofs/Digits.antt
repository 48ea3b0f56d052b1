-- What the loop of `read_u64` keeps.
use Rattle.std.proofs.Common.{◌≡◌, ℕ, ◌+◌, ◌*◌, ◌-◌, ◌<◌, ◌≤◌, List, [], ◌∷◌, length, drop, get_or, sym, subst, refl, arith}
use Rattle.std.specs.Str.Parse.{AllDigits, digits_value, digits_value_after}
use Rattle.std.specs.Char.{digit_value}
use Rattle.std.proofs.lemmas.List.{drop_more, drop_all}
use Rattle.std.proofs.lemmas.Bool.Decides.{nat_tests}

-- further digits make no number smaller
pub digits_value_after-le : (n : ℕ) (bytes : List ℕ) → n ≤ digits_value_after 10 n bytes
digits_value_after-le n [] = omega arith
digits_value_after-le n (b ∷ bytes) = omega (arith, digits_value_after-le (n * 10 + digit_value b) bytes)

-- what a digit is worth
digit_value_is : (b : ℕ) → 48 ≤ b → b < 58 → digit_value b ≡ b - 48
digit_value_is b low high = grind (arith, nat_tests)

-- the bytes before i are digits and write the number, so what is left decides the rest
pub record Reads (text : List ℕ) (i number : ℕ) : Type 0 where
  pub value : digits_value_after 10 number (drop i text) ≡ digits_value 10 text
  pub rest : AllDigits 10 text → AllDigits 10 (drop i text)
  pub whole : AllDigits 10 (drop i text) → AllDigits 10 text

pub reads_more : (text : List ℕ) (i number next : ℕ) → i < length text → 48 ≤ get_or text i 0 → get_or text i 0 < 58 → next ≡ number * 10 + (get_or text i 0 - 48) → Reads text i number → Reads text (i + 1) next
reads_more text i number next within low high is reads =
    let here : drop i text ≡ get_or text i 0 ∷ drop (i + 1) text = drop_more text i 0 within in
    let worth : digit_value (get_or text i 0) ≡ get_or text i 0 - 48 = digit_value_is (get_or text i 0) low high in
    let digit : digit_value (get_or text i 0) < 10 = omega arith in
    record {
      value = rw (is, ← worth) (rw here at reads.value);
      rest = λ all. (subst (λ ds. AllDigits 10 ds) here (reads.rest all)).1;
      whole = λ all. reads.whole (subst (λ ds. AllDigits 10 ds) (sym here) (digit, all));
    }

-- at the end the number is that of the text
pub reads_all : (text : List ℕ) (i number : ℕ) → length text ≤ i → Reads text i number → AllDigits 10 text × (number ≡ digits_value 10 text)
reads_all text i number past reads =
    let nothing : drop i text ≡ [] = drop_all i text past in
    (reads.whole (subst (λ ds. AllDigits 10 ds) (sym nothing) tt), rw nothing at reads.value)

-- a number that is too large with the next digit
pub reads_too_large : (text : List ℕ) (i number : ℕ) → i < length text → 48 ≤ get_or text i 0 → get_or text i 0 < 58 → Reads text i number → number * 10 + (get_or text i 0 - 48) ≤ digits_value 10 text
reads_too_large text i number within low high reads =
    let next = reads_more text i number (number * 10 + (get_or text i 0 - 48)) within low high refl reads in
    subst (λ n. number * 10 + (get_or text i 0 - 48) ≤ n) next.value (digits_value_after-le (number * 10 + (get_or text i 0 - 48)) (drop (i + 1) text))
