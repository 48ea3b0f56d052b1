-- Numbers, words and operators are what the grammar says.
use Rattle.std.proofs.Common.{◌≡◌, ◌⊎◌, ℕ, suc, ◌+◌, ◌<◌, ◌≤◌, Bool, true, false, List, [], ◌∷◌, ◌++◌, length, take, drop, nat_eq, max, map, append_assoc, refl, ap, sym, ◌∙◌, subst, inl, inr, arith, lit<}
use Rattle.std.specs.Prelude.{◌==◌, ◌&&◌, ◌||◌, nat_lt, codes, if◌then◌else◌}
use Rattle.std.specs.List.{prefix_len, list_all, list_any, starts_with}
use Rattle.std.specs.Str.{bytes_eq}
use Rattle.std.specs.Char.{is_ascii_digit, is_ascii_hexdigit}
use Rattle.std.proofs.Math.Seq.{take-add}
use Rattle.std.proofs.lemmas.Bool.{cond_both, and_parts, cases_lt, or_cases, ltb-true, eqb-true, false≢true}
use Rattle.std.proofs.Math.Bool.{and-true}
use Rattle.std.proofs.lemmas.List.{length-take-le, length-drop, length-append, take_at}
use Rattle.std.proofs.lemmas.List.Sums.{prefix_len-le-length}
use Rattle.std.proofs.lemmas.Slice.Eq.{starts_is}
use Rattle.std.proofs.lemmas.Bool.Decides.{Decides-eqb}
use Rattle.pfs_lexer.specs.Classes.{byte_at, is_word_start, is_word_byte}
use Rattle.pfs_lexer.specs.Numbers.{digits_len, fraction_len, sign_len, exponent_len, decimal_len, hex_len, number_len}
use Rattle.pfs_lexer.specs.Operators.{triples, doubles, singles, begins_with_one_of, operator_len}
use Rattle.pfs_lexer.specs.TokenGrammar.{AreDigits, IsFraction, IsSign, IsExponent, IsDecimal, IsHexadecimal, IsWord, IsOperator, spellings}

-- all of a run is of its class
pub run_all : (test : ℕ → Bool) (xs : List ℕ) → list_all test (take (prefix_len test xs) xs) ≡ true
run_all test [] = refl
run_all test (x ∷ xs) =
    cond_both (test x) (1 + prefix_len test xs) 0 (λ n. list_all test (take n (x ∷ xs)) ≡ true)
    (λ passes.
    let one : 1 + prefix_len test xs ≡ suc (prefix_len test xs) = omega arith in
    rw one (ap (λ t. t && list_all test (take (prefix_len test xs) xs)) passes ∙ run_all test xs))
    (λ _. refl)

run_digits : (test : ℕ → Bool) (xs : List ℕ) → 0 < prefix_len test xs → AreDigits test (take (prefix_len test xs) xs)
run_digits test xs some =
    (omega (arith, length-take-le (prefix_len test xs) xs (prefix_len-le-length test xs)), run_all test xs)

first_is : (xs : List ℕ) (b : ℕ) → 0 < b → byte_at xs 0 ≡ b → xs ≡ b ∷ drop 1 xs
first_is [] b some e = absurd (omega (arith, e))
first_is (x ∷ xs) b some e = ap (λ y. y ∷ xs) e

take_one_more : (n : ℕ) (b : ℕ) (xs : List ℕ) → take (1 + n) (b ∷ xs) ≡ b ∷ take n xs
take_one_more n b xs =
    let one : 1 + n ≡ suc n = omega arith in
    ap (λ k. take k (b ∷ xs)) one

fraction_is : (xs : List ℕ) → IsFraction (take (fraction_len xs) xs)
unfolding fraction_len
fraction_is xs =
    cond_both (byte_at xs 0 == 46 && nat_lt 0 (digits_len (drop 1 xs))) (1 + digits_len (drop 1 xs)) 0 (λ n. IsFraction (take n xs))
    (λ both.
    let parts = and_parts (byte_at xs 0 == 46) (nat_lt 0 (digits_len (drop 1 xs))) both in
    let split = first_is xs 46 (lit< tt) (eqb-true _ _ parts.0) in
    inr (
      take (digits_len (drop 1 xs)) (drop 1 xs),
      ap (take (1 + digits_len (drop 1 xs))) split ∙ take_one_more (digits_len (drop 1 xs)) 46 (drop 1 xs),
      run_digits is_ascii_digit (drop 1 xs) (ltb-true _ _ parts.1),
    ))
    (λ _. inl refl)

sign_is : (xs : List ℕ) → IsSign (take (sign_len xs) xs)
unfolding sign_len
sign_is xs =
    cond_both (byte_at xs 0 == 43 || byte_at xs 0 == 45) 1 0 (λ n. IsSign (take n xs))
    (λ either. elim (or_cases (byte_at xs 0 == 43) (byte_at xs 0 == 45) either) [
      | inl plus ↦ inr (inl (ap (take 1) (first_is xs 43 (lit< tt) (eqb-true _ _ plus))))
      | inr minus ↦ inr (inr (ap (take 1) (first_is xs 45 (lit< tt) (eqb-true _ _ minus))))
    ])
    (λ _. inl refl)

exponent_parts : (xs : List ℕ) (letter sign digits : ℕ) → xs ≡ letter ∷ drop 1 xs → take (1 + sign + digits) xs ≡ letter ∷ (take sign (drop 1 xs) ++ take digits (drop (1 + sign) xs))
exponent_parts xs letter sign digits split =
    take-add (1 + sign) digits xs
    ∙ ap (λ r. r ++ take digits (drop (1 + sign) xs)) (ap (take (1 + sign)) split ∙ take_one_more sign letter (drop 1 xs))

exponent_of : (xs : List ℕ) (letter : ℕ) → xs ≡ letter ∷ drop 1 xs → (letter ≡ 101) ⊎ (letter ≡ 69) → 0 < digits_len (drop (1 + sign_len (drop 1 xs)) xs) → IsExponent (take (1 + sign_len (drop 1 xs) + digits_len (drop (1 + sign_len (drop 1 xs)) xs)) xs)
exponent_of xs letter split which some =
    let sign = sign_len (drop 1 xs) in
    let digits = digits_len (drop (1 + sign) xs) in
    inr (
      letter,
      take sign (drop 1 xs),
      take digits (drop (1 + sign) xs),
      exponent_parts xs letter sign digits split,
      which,
      sign_is (drop 1 xs),
      run_digits is_ascii_digit (drop (1 + sign) xs) some,
    )

exponent_is : (xs : List ℕ) → IsExponent (take (exponent_len xs) xs)
unfolding exponent_len
exponent_is xs =
    let sign = sign_len (drop 1 xs) in
    let digits = digits_len (drop (1 + sign) xs) in
    cond_both ((byte_at xs 0 == 101 || byte_at xs 0 == 69) && nat_lt 0 digits) (1 + sign + digits) 0 (λ n. IsExponent (take n xs))
    (λ both.
    let parts = and_parts (byte_at xs 0 == 101 || byte_at xs 0 == 69) (nat_lt 0 digits) both in
    elim (or_cases (byte_at xs 0 == 101) (byte_at xs 0 == 69) parts.0) [
      | inl small ↦ exponent_of xs 101 (first_is xs 101 (lit< tt) (eqb-true _ _ small)) (inl refl) (ltb-true _ _ parts.1)
      | inr large ↦ exponent_of xs 69 (first_is xs 69 (lit< tt) (eqb-true _ _ large)) (inr refl) (ltb-true _ _ parts.1)
    ])
    (λ _. inl refl)

three_parts : (a b c : ℕ) (xs : List ℕ) → take (a + b + c) xs ≡ take a xs ++ (take b (drop a xs) ++ take c (drop (a + b) xs))
three_parts a b c xs =
    take-add (a + b) c xs ∙ ap (λ r. r ++ take c (drop (a + b) xs)) (take-add a b xs)
    ∙ append_assoc (take a xs) (take b (drop a xs)) (take c (drop (a + b) xs))

whole_digits : (xs : List ℕ) (b : ℕ) (tail : List ℕ) → xs ≡ b ∷ tail → is_ascii_digit b ≡ true → AreDigits is_ascii_digit (take (1 + digits_len tail) xs)
whole_digits xs b tail split passes =
    let e : take (1 + digits_len tail) xs ≡ b ∷ take (digits_len tail) tail = ap (take (1 + digits_len tail)) split ∙ take_one_more (digits_len tail) b tail in
    let all : list_all is_ascii_digit (b ∷ take (digits_len tail) tail) ≡ true = ap (λ t. t && list_all is_ascii_digit (take (digits_len tail) tail)) passes ∙ run_all is_ascii_digit tail in
    (omega (arith, ap length e), ap (list_all is_ascii_digit) e ∙ all)

decimal_is : (xs : List ℕ) (b : ℕ) → xs ≡ b ∷ drop 1 xs → is_ascii_digit b ≡ true → IsDecimal (take (decimal_len xs) xs)
unfolding decimal_len
decimal_is xs b split passes =
    let whole = 1 + digits_len (drop 1 xs) in
    let fraction = fraction_len (drop whole xs) in
    let exponent = exponent_len (drop (whole + fraction) xs) in (
      take whole xs,
      take fraction (drop whole xs),
      take exponent (drop (whole + fraction) xs),
      three_parts whole fraction exponent xs,
      whole_digits xs b (drop 1 xs) split passes,
      fraction_is (drop whole xs),
      exponent_is (drop (whole + fraction) xs),
    )

hexadecimal_is : (xs : List ℕ) → 0 < hex_len xs → IsHexadecimal (take (hex_len xs) xs)
unfolding hex_len
hexadecimal_is xs some =
    let digits = prefix_len is_ascii_hexdigit (drop 2 xs) in
    cond_both (starts_with nat_eq xs (codes "0x") && nat_lt 0 digits) (2 + digits) 0 (λ n. 0 < n → IsHexadecimal (take n xs))
    (λ both _.
    let parts = and_parts (starts_with nat_eq xs (codes "0x")) (nat_lt 0 digits) both in
    let split = (starts_is Decides-eqb xs (codes "0x") (starts_with nat_eq xs (codes "0x")) refl).0 parts.0 in (
      take digits (drop 2 xs),
      take-add 2 digits xs ∙ ap (λ r. r ++ take digits (drop 2 xs)) (ap (take 2) split),
      run_digits is_ascii_hexdigit (drop 2 xs) (ltb-true _ _ parts.1),
    ))
    (λ _ none. absurd (omega arith))
    some

pub number_is : (xs : List ℕ) (b : ℕ) → xs ≡ b ∷ drop 1 xs → is_ascii_digit b ≡ true → IsDecimal (take (number_len xs) xs) ⊎ IsHexadecimal (take (number_len xs) xs)
number_is xs b split passes = elim (cases_lt (decimal_len xs) (hex_len xs)) [
  | inl hex ↦
      let most : hex_len xs ≡ max (hex_len xs) (decimal_len xs) = omega arith in
      inr (subst (λ n. IsHexadecimal (take n xs)) most (hexadecimal_is xs (omega arith)))
  | inr decimal ↦
      let most : decimal_len xs ≡ max (hex_len xs) (decimal_len xs) = omega arith in
      inl (subst (λ n. IsDecimal (take n xs)) most (decimal_is xs b split passes))
]

pub word_is : (xs : List ℕ) (b : ℕ) → xs ≡ b ∷ drop 1 xs → is_word_start b ≡ true → IsWord (take (1 + prefix_len is_word_byte (drop 1 xs)) xs)
word_is xs b split passes =
    let len = prefix_len is_word_byte (drop 1 xs) in
    let e : take (1 + len) xs ≡ b ∷ take len (drop 1 xs) = ap (take (1 + len)) split ∙ take_one_more len b (drop 1 xs) in
    subst IsWord (sym e) (passes, run_all is_word_byte (drop 1 xs))

-- a spelling of a table that the bytes begin with
record Begun (n : ℕ) (xs : List ℕ) : Type 0 where
  pub spelling : List ℕ
  pub begins : starts_with nat_eq xs spelling ≡ true
  pub len : length spelling ≡ n
  pub is : IsOperator spelling

-- each spelling of the table has so many bytes and is an operator
spelled : ℕ → List (List ℕ) → Bool
spelled n [] = true
spelled n (s ∷ table) = (length s == n && list_any (bytes_eq s) spellings) && spelled n table

begun : (n : ℕ) (xs : List ℕ) (table : List (List ℕ)) → spelled n table ≡ true → begins_with_one_of table xs ≡ true → Begun n xs
unfolding spelled
begun n xs [] all e = absurd (false≢true e)
begun n xs (s ∷ table) all e =
    let parts = and_parts (length s == n && list_any (bytes_eq s) spellings) (spelled n table) all in
    let here = and_parts (length s == n) (list_any (bytes_eq s) spellings) parts.0 in
    elim (or_cases (starts_with nat_eq xs s) (begins_with_one_of table xs) e) [
      | inl this ↦ record { spelling = s; begins = this; len = eqb-true (length s) n here.0; is = here.1 }
      | inr later ↦ begun n xs table parts.1 later
    ]

begun_single : (xs : List ℕ) (bytes : List ℕ) → spelled 1 (map (λ b. b ∷ []) bytes) ≡ true → list_any (λ byte. starts_with nat_eq xs (byte ∷ [])) bytes ≡ true → Begun 1 xs
unfolding spelled
begun_single xs [] all e = absurd (false≢true e)
begun_single xs (b ∷ bytes) all e =
    let parts = and_parts (length (b ∷ []) == 1 && list_any (bytes_eq (b ∷ [])) spellings) (spelled 1 (map (λ b. b ∷ []) bytes)) all in
    let here = and_parts (length (b ∷ []) == 1) (list_any (bytes_eq (b ∷ [])) spellings) parts.0 in
    elim (or_cases (starts_with nat_eq xs (b ∷ [])) (list_any (λ byte. starts_with nat_eq xs (byte ∷ [])) bytes) e) [
      | inl this ↦ record { spelling = b ∷ []; begins = this; len = refl; is = here.1 }
      | inr later ↦ begun_single xs bytes parts.1 later
    ]

begun_is : (n : ℕ) (xs : List ℕ) → Begun n xs → IsOperator (take n xs)
begun_is n xs b =
    let split = (starts_is Decides-eqb xs b.spelling (starts_with nat_eq xs b.spelling) refl).0 b.begins in
    let e : take n xs ≡ b.spelling = ap (take n) split ∙ take_at b.spelling (drop (length b.spelling) xs) n b.len in
    subst IsOperator (sym e) b.is

pub operator_is : (xs : List ℕ) → 0 < operator_len xs → IsOperator (take (operator_len xs) xs)
unfolding operator_len spelled
operator_is xs some =
    cond_both (begins_with_one_of triples xs) 3 (if begins_with_one_of doubles xs then 2 else if list_any (λ byte. starts_with nat_eq xs (byte ∷ [])) singles then 1 else 0) (λ n. 0 < n → IsOperator (take n xs))
    (λ three _. begun_is 3 xs (begun 3 xs triples refl three))
    (λ _. cond_both (begins_with_one_of doubles xs) 2 (if list_any (λ byte. starts_with nat_eq xs (byte ∷ [])) singles then 1 else 0) (λ n. 0 < n → IsOperator (take n xs))
    (λ two _. begun_is 2 xs (begun 2 xs doubles refl two))
    (λ _. cond_both (list_any (λ byte. starts_with nat_eq xs (byte ∷ [])) singles) 1 0 (λ n. 0 < n → IsOperator (take n xs))
    (λ one _. begun_is 1 xs (begun_single xs singles refl one))
    (λ _ none. absurd (omega arith))))
    some

fraction_within : (xs : List ℕ) → fraction_len xs ≤ length xs
unfolding fraction_len
fraction_within xs =
    cond_both (byte_at xs 0 == 46 && nat_lt 0 (digits_len (drop 1 xs))) (1 + digits_len (drop 1 xs)) 0 (λ n. n ≤ length xs)
    (λ both.
    let parts = and_parts (byte_at xs 0 == 46) (nat_lt 0 (digits_len (drop 1 xs))) both in
    omega (arith, ltb-true 0 (digits_len (drop 1 xs)) parts.1, prefix_len-le-length is_ascii_digit (drop 1 xs), length-drop 1 xs))
    (λ _. omega arith)

exponent_within : (xs : List ℕ) → exponent_len xs ≤ length xs
unfolding exponent_len
exponent_within xs =
    let sign = sign_len (drop 1 xs) in
    let digits = digits_len (drop (1 + sign) xs) in
    cond_both ((byte_at xs 0 == 101 || byte_at xs 0 == 69) && nat_lt 0 digits) (1 + sign + digits) 0 (λ n. n ≤ length xs)
    (λ both.
    let parts = and_parts (byte_at xs 0 == 101 || byte_at xs 0 == 69) (nat_lt 0 digits) both in
    omega (arith, ltb-true 0 digits parts.1, prefix_len-le-length is_ascii_digit (drop (1 + sign) xs), length-drop (1 + sign) xs))
    (λ _. omega arith)

decimal_within : (xs : List ℕ) → 0 < length xs → (0 < decimal_len xs) × (decimal_len xs ≤ length xs)
unfolding decimal_len
decimal_within xs some =
    let whole = 1 + digits_len (drop 1 xs) in
    let fraction = fraction_len (drop whole xs) in
    let exponent = exponent_len (drop (whole + fraction) xs) in
    let bound_whole : whole ≤ length xs = omega (arith, prefix_len-le-length is_ascii_digit (drop 1 xs), length-drop 1 xs) in
    let bound_fraction : whole + fraction ≤ length xs = omega (arith, fraction_within (drop whole xs), length-drop whole xs) in
    let bound_exponent : whole + fraction + exponent ≤ length xs = omega (arith, exponent_within (drop (whole + fraction) xs), length-drop (whole + fraction) xs) in
    (omega arith, bound_exponent)

hex_within : (xs : List ℕ) → hex_len xs ≤ length xs
unfolding hex_len
hex_within xs =
    let digits = prefix_len is_ascii_hexdigit (drop 2 xs) in
    cond_both (starts_with nat_eq xs (codes "0x") && nat_lt 0 digits) (2 + digits) 0 (λ n. n ≤ length xs)
    (λ both.
    let parts = and_parts (starts_with nat_eq xs (codes "0x")) (nat_lt 0 digits) both in
    omega (arith, ltb-true 0 digits parts.1, prefix_len-le-length is_ascii_hexdigit (drop 2 xs), length-drop 2 xs))
    (λ _. omega arith)

pub number_within : (xs : List ℕ) → 0 < length xs → (0 < number_len xs) × (number_len xs ≤ length xs)
number_within xs some =
    let decimal = decimal_within xs some in
    let hex = hex_within xs in
    (omega (arith, decimal.0), omega (arith, decimal.1, hex))

begun_within : (n : ℕ) (xs : List ℕ) → Begun n xs → n ≤ length xs
begun_within n xs b =
    let split = (starts_is Decides-eqb xs b.spelling (starts_with nat_eq xs b.spelling) refl).0 b.begins in
    omega (arith, ap length split, length-append b.spelling (drop (length b.spelling) xs), b.len)

pub operator_within : (xs : List ℕ) → operator_len xs ≤ length xs
unfolding operator_len spelled
operator_within xs =
    cond_both (begins_with_one_of triples xs) 3 (if begins_with_one_of doubles xs then 2 else if list_any (λ byte. starts_with nat_eq xs (byte ∷ [])) singles then 1 else 0) (λ n. n ≤ length xs)
    (λ three. begun_within 3 xs (begun 3 xs triples refl three))
    (λ _. cond_both (begins_with_one_of doubles xs) 2 (if list_any (λ byte. starts_with nat_eq xs (byte ∷ [])) singles then 1 else 0) (λ n. n ≤ length xs)
    (λ two. begun_within 2 xs (begun 2 xs doubles refl two))
    (λ _. cond_both (list_any (λ byte. starts_with nat_eq xs (byte ∷ [])) singles) 1 0 (λ n. n ≤ length xs)
    (λ one. begun_within 1 xs (begun_single xs singles refl one))
    (λ _. omega arith)))

single_any : (b : ℕ) (xs : List ℕ) (table : List ℕ) → list_any (λ byte. starts_with nat_eq (b ∷ xs) (byte ∷ [])) table ≡ list_any (λ operator. operator == b) table
single_any b xs [] = refl
single_any b xs (c ∷ table) =
    ap (λ t. t || list_any (λ byte. starts_with nat_eq (b ∷ xs) (byte ∷ [])) table) (and-true (c == b))
    ∙ ap (λ r. (c == b) || r) (single_any b xs table)

-- a test among two others is positive, so their choice is
chosen_some : (two one : Bool) → ◌≡◌ {A = ℕ} (if two then 2 else if one then 1 else 0) 0 → one ≡ false
chosen_some true one e = absurd (omega (arith, e))
chosen_some false true e = absurd (omega (arith, e))
chosen_some false false e = refl

chosen_last : (three two one : Bool) → ◌≡◌ {A = ℕ} (if three then 3 else if two then 2 else if one then 1 else 0) 0 → one ≡ false
chosen_last true two one e = absurd (omega (arith, e))
chosen_last false two one e = chosen_some two one e

-- no operator of one byte is the byte
pub no_operator : (b : ℕ) (xs : List ℕ) → operator_len (b ∷ xs) ≡ 0 → list_any (λ operator. operator == b) singles ≡ false
unfolding operator_len
no_operator b xs none =
    sym (single_any b xs singles)
    ∙ chosen_last (begins_with_one_of triples (b ∷ xs)) (begins_with_one_of doubles (b ∷ xs)) (list_any (λ byte. starts_with nat_eq (b ∷ xs) (byte ∷ [])) singles) none
