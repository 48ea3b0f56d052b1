-- No longer front of the bytes is a token of the kind.
use Rattle.std.proofs.Common.{◌≡◌, ◌≢◌, ◌⊎◌, ℕ, zero, suc, ◌+◌, ◌<◌, ◌≤◌, Bool, true, false, List, [], ◌∷◌, ◌++◌, length, get_or, take, drop, nat_eq, map, append_assoc, add-zero, Some, refl, ap, sym, ◌∙◌, subst, inl, inr, arith, lit≤}
use Rattle.std.specs.Prelude.{◌==◌, ◌&&◌, ◌||◌, not, nat_lt, codes, if◌then◌else◌}
use Rattle.std.specs.List.{prefix_len, list_all, list_any, starts_with}
use Rattle.std.specs.Str.{bytes_eq}
use Rattle.std.specs.Char.{is_ascii_digit, is_ascii_hexdigit}
use Rattle.std.proofs.lemmas.Bool.{cases_lt, cond_both, cond-true, cond-false, and_parts, and_from, and_right, or_cases, or_from, or_left, or_right, lt-ltb, eqb-true, eq-eqb, ne_eqb, false≢true, not_from_false}
use Rattle.std.proofs.lemmas.List.Sums.{prefix_len_passes}
use Rattle.std.proofs.lemmas.List.{get_or-drop, drop-drop, length-take-le, length-drop, length-append, take_at, drop_at, take-append-drop}
use Rattle.std.proofs.lemmas.Slice.Eq.{starts_is, bytes_eq-Decides}
use Rattle.std.proofs.lemmas.Bool.Decides.{Decides-eqb}
use Rattle.pfs_lexer.specs.Classes.{byte_at, is_word_byte}
use Rattle.pfs_lexer.specs.QuotePairs.{is_pair, quoted_len}
use Rattle.pfs_lexer.specs.Numbers.{digits_len, fraction_len, sign_len, exponent_len, decimal_len, hex_len, number_len}
use Rattle.pfs_lexer.specs.Operators.{triples, doubles, singles, begins_with_one_of, operator_len}
use Rattle.pfs_lexer.specs.TokenGrammar.{IsPlain, IsDoubled, IsBody, IsBetween, AreDigits, IsFraction, IsSign, IsExponent, IsDecimal, IsHexadecimal, IsWord, IsOperator}
use Rattle.pfs_lexer.proofs.QuoteSteps.{quoted-pair, quoted-other}
use Rattle.pfs_lexer.proofs.QuoteGrammar.{more-some, quoted_closes}

-- a front all of a class is no longer than the run
run_most : (test : ℕ → Bool) (n : ℕ) (xs : List ℕ) → n ≤ length xs → list_all test (take n xs) ≡ true → n ≤ prefix_len test xs
run_most test zero xs h all = omega arith
run_most test (suc n) [] h all = absurd (omega arith)
run_most test (suc n) (x ∷ xs) h all =
    let parts = and_parts (test x) (list_all test (take n xs)) all in
    let rest = run_most test n xs (omega arith) parts.1 in
    let here : prefix_len test (x ∷ xs) ≡ 1 + prefix_len test xs = cond-true (test x) (1 + prefix_len test xs) 0 parts.0 in
    omega (arith, rest, here)

-- what stands in a front stands in the whole
front_at : (front back xs : List ℕ) (m : ℕ) → m ≤ length xs → take m xs ≡ front ++ back → take (length front) xs ≡ front
front_at front back xs m h e =
    let whole : xs ≡ front ++ (back ++ drop m xs) = sym (take-append-drop m xs) ∙ ap (λ r. r ++ drop m xs) e ∙ append_assoc front back (drop m xs) in
    ap (take (length front)) whole ∙ take_at front (back ++ drop m xs) (length front) refl

back_at : (front back xs : List ℕ) (m : ℕ) → m ≤ length xs → take m xs ≡ front ++ back → take (length back) (drop (length front) xs) ≡ back
back_at front back xs m h e =
    let whole : xs ≡ front ++ (back ++ drop m xs) = sym (take-append-drop m xs) ∙ ap (λ r. r ++ drop m xs) e ∙ append_assoc front back (drop m xs) in
    ap (λ r. take (length back) (drop (length front) r)) whole
    ∙ ap (take (length back)) (drop_at front (back ++ drop m xs) (length front) refl)
    ∙ take_at back (drop m xs) (length back) refl

front_len : (front back xs : List ℕ) (m : ℕ) → m ≤ length xs → take m xs ≡ front ++ back → length front + length back ≡ m
front_len front back xs m h e = omega (arith, ap length e, length-take-le m xs h, length-append front back)

-- words
pub word_most : (b : ℕ) (xs : List ℕ) (m : ℕ) → m ≤ length (b ∷ xs) → IsWord (take m (b ∷ xs)) → m ≤ 1 + prefix_len is_word_byte xs
word_most b xs zero h is = omega arith
word_most b xs (suc m) h is = omega (arith, run_most is_word_byte m xs (omega arith) is.1)

-- operators
spelled : ℕ → List (List ℕ) → Bool
spelled n [] = true
spelled n (s ∷ table) = length s == n && spelled n table

any-begins : (n m : ℕ) (xs : List ℕ) (table : List (List ℕ)) → m ≤ length xs → spelled n table ≡ true → list_any (bytes_eq (take m xs)) table ≡ true → (m ≡ n) × (begins_with_one_of table xs ≡ true)
unfolding spelled
any-begins n m xs [] h all e = absurd (false≢true e)
any-begins n m xs (s ∷ table) h all e =
    let parts = and_parts (length s == n) (spelled n table) all in
    elim (or_cases (bytes_eq (take m xs) s) (list_any (bytes_eq (take m xs)) table) e) [
      | inl here ↦
          let same : take m xs ≡ s = (bytes_eq-Decides (take m xs) s).0 here in
          let len : m ≡ length s = omega (arith, ap length same, length-take-le m xs h) in
          let whole : xs ≡ s ++ drop m xs = sym (take-append-drop m xs) ∙ ap (λ r. r ++ drop m xs) same in
          let begins : starts_with nat_eq xs s ≡ true = (starts_is Decides-eqb xs s (starts_with nat_eq xs s) refl).1 (drop m xs) whole in
          (omega (arith, len, eqb-true (length s) n parts.0), or_left (starts_with nat_eq xs s) (begins_with_one_of table xs) begins)
      | inr later ↦
          let rest = any-begins n m xs table h parts.1 later in
          (rest.0, or_right (starts_with nat_eq xs s) (begins_with_one_of table xs) rest.1)
    ]

list_any-append : (test : List ℕ → Bool) (xs ys : List (List ℕ)) → list_any test (xs ++ ys) ≡ true → (list_any test xs ≡ true) ⊎ (list_any test ys ≡ true)
list_any-append test [] ys e = inr e
list_any-append test (x ∷ xs) ys e = elim (or_cases (test x) (list_any test (xs ++ ys)) e) [
  | inl here ↦ inl (or_left (test x) (list_any test xs) here)
  | inr later ↦ elim (list_any-append test xs ys later) [
    | inl first ↦ inl (or_right (test x) (list_any test xs) first)
    | inr second ↦ inr second
  ]
]

single-begins : (xs : List ℕ) (bytes : List ℕ) → begins_with_one_of (map (λ b. b ∷ []) bytes) xs ≡ list_any (λ byte. starts_with nat_eq xs (byte ∷ [])) bytes
single-begins xs [] = refl
single-begins xs (b ∷ bytes) = ap (λ r. starts_with nat_eq xs (b ∷ []) || r) (single-begins xs bytes)

-- the three choices, at least as long as the one that is there
three_some : (three two one : Bool) → three ≡ true → 3 ≤ (if three then 3 else if two then 2 else if one then 1 else 0)
three_some true two one e = lit≤ tt
three_some false two one e = absurd (false≢true e)

two_some : (three two one : Bool) → two ≡ true → 2 ≤ (if three then 3 else if two then 2 else if one then 1 else 0)
two_some true two one e = lit≤ tt
two_some false true one e = lit≤ tt
two_some false false one e = absurd (false≢true e)

one_some : (three two one : Bool) → one ≡ true → 1 ≤ (if three then 3 else if two then 2 else if one then 1 else 0)
one_some true two one e = lit≤ tt
one_some false true one e = lit≤ tt
one_some false false true e = lit≤ tt
one_some false false false e = absurd (false≢true e)

pub operator_most : (xs : List ℕ) (m : ℕ) → m ≤ length xs → IsOperator (take m xs) → m ≤ operator_len xs
unfolding operator_len spelled
operator_most xs m h is =
    let three = begins_with_one_of triples xs in
    let two = begins_with_one_of doubles xs in
    let one = list_any (λ byte. starts_with nat_eq xs (byte ∷ [])) singles in
    let test = bytes_eq (take m xs) in
    elim (list_any-append test triples (doubles ++ map (λ b. b ∷ []) singles) is) [
      | inl of_three ↦
          let found = any-begins 3 m xs triples h refl of_three in
          omega (arith, found.0, three_some three two one found.1)
      | inr shorter ↦ elim (list_any-append test doubles (map (λ b. b ∷ []) singles) shorter) [
        | inl of_two ↦
            let found = any-begins 2 m xs doubles h refl of_two in
            omega (arith, found.0, two_some three two one found.1)
        | inr of_one ↦
            let found = any-begins 1 m xs (map (λ b. b ∷ []) singles) h refl of_one in
            omega (arith, found.0, one_some three two one (sym (single-begins xs singles) ∙ found.1))
      ]
    ]

-- between quotes
pub plain-single : (q b c : ℕ) → IsPlain q b → is_pair q b c ≡ false
plain-single q b c plain =
    cond-false (b == q) (c == q) (not (q == 96) && b == 92) (ne_eqb b q plain.0)
    ∙ elim plain.1 [
      | inl back ↦ ap (λ t. not t && b == 92) (eq-eqb q 96 back)
      | inr other ↦ and_right (not (q == 96)) (b == 92) (ne_eqb b 92 other)
    ]

pub doubled-pair : (q b c : ℕ) → q ≢ 92 → IsDoubled q b c → is_pair q b c ≡ true
doubled-pair q b c no_slash doubled = elim doubled [
  | inl same ↦ cond-true (b == q) (c == q) (not (q == 96) && b == 92) (eq-eqb b q same.0) ∙ eq-eqb c q same.1
  | inr slash ↦
      let other : b ≢ q = λ e. no_slash (sym e ∙ slash.1) in
      cond-false (b == q) (c == q) (not (q == 96) && b == 92) (ne_eqb b q other)
      ∙ and_from (not (q == 96)) (b == 92) (not_from_false (q == 96) (ne_eqb q 96 slash.0)) (eq-eqb b 92 slash.1)
]

-- a body with its closing quote is no longer than what stands up to the first one
body_most : (q : ℕ) (body rest : List ℕ) (n : ℕ) → q ≢ 92 → IsBody q body → quoted_len q (body ++ q ∷ rest) ≡ Some n → length body + 1 ≤ n
body_most q [] rest n no_slash is e =
    let c = quoted_closes q (q ∷ rest) n e in
    omega (arith, c.len)
body_most q (b ∷ []) rest n no_slash is e =
    let l = more-some 1 n (quoted_len q (q ∷ rest)) (sym (quoted-other q b q rest (plain-single q b q is) (ne_eqb b q is.0)) ∙ e) in
    let c = quoted_closes q (q ∷ rest) l.less l.is in
    omega (arith, c.len, l.sum)
body_most q (b ∷ c ∷ body) rest n no_slash is e = elim is [
  | inl plain ↦
      let l = more-some 1 n (quoted_len q (c ∷ (body ++ q ∷ rest))) (sym (quoted-other q b c (body ++ q ∷ rest) (plain-single q b c plain.0) (ne_eqb b q plain.0.0)) ∙ e) in
      omega (arith, l.sum, body_most q (c ∷ body) rest l.less no_slash plain.1 l.is)
  | inr pair ↦
      let l = more-some 2 n (quoted_len q (body ++ q ∷ rest)) (sym (quoted-pair q b c (body ++ q ∷ rest) (doubled-pair q b c no_slash pair.0)) ∙ e) in
      omega (arith, l.sum, body_most q body rest l.less no_slash pair.1 l.is)
]

-- from quote to quote: `xs` stands behind the first
pub between_most : (q first : ℕ) (xs : List ℕ) (n m : ℕ) → q ≢ 92 → first ≡ q → quoted_len q xs ≡ Some n → m ≤ length (first ∷ xs) → IsBetween q (take m (first ∷ xs)) → m ≤ 1 + n
between_most q first xs n zero no_slash same e h is = omega arith
between_most q first xs n (suc m) no_slash same e h is =
    let body = is.0 in
    let tail : take m xs ≡ body ++ q ∷ [] = ap (drop 1) is.1 in
    let whole : xs ≡ body ++ q ∷ drop m xs = sym (take-append-drop m xs) ∙ ap (λ r. r ++ drop m xs) tail ∙ append_assoc body (q ∷ []) (drop m xs) in
    let len : m ≡ length body + 1 = omega (arith, ap length tail, length-take-le m xs (omega arith), length-append body (q ∷ [])) in
    omega (arith, len, body_most q body (drop m xs) n no_slash is.2 (ap (quoted_len q) (sym whole) ∙ e))

-- numbers: the first byte of the bytes at a place
at_front : (n : ℕ) (b : ℕ) (back xs : List ℕ) (m : ℕ) → m ≤ length xs → take m xs ≡ b ∷ back → byte_at xs 0 ≡ b
at_front n b back [] zero h e = absurd (cc e)
at_front n b back [] (suc m) h e = absurd (cc e)
at_front n b back (x ∷ xs) zero h e = absurd (cc e)
at_front n b back (x ∷ xs) (suc m) h e = cc e

fraction_most : (xs : List ℕ) (m : ℕ) → m ≤ length xs → IsFraction (take m xs) → m ≤ fraction_len xs
unfolding fraction_len
fraction_most xs m h is = elim is [
  | inl none ↦
      let zero_len : m ≡ 0 = omega (arith, ap length none, length-take-le m xs h) in
      omega (arith, zero_len)
  | inr some ↦
      let digits = some.0 in
      let dot : byte_at xs 0 ≡ 46 = at_front 0 46 digits xs m h some.1 in
      let len : m ≡ 1 + length digits = omega (arith, ap length some.1, length-take-le m xs h) in
      let behind : take (length digits) (drop 1 xs) ≡ digits = back_at (46 ∷ []) digits xs m h some.1 in
      let fits : length digits ≤ length (drop 1 xs) = omega (arith, length-drop 1 xs, len) in
      let most : length digits ≤ digits_len (drop 1 xs) = run_most is_ascii_digit (length digits) (drop 1 xs) fits (ap (list_all is_ascii_digit) behind ∙ some.2.1) in
      let both : (byte_at xs 0 == 46 && nat_lt 0 (digits_len (drop 1 xs))) ≡ true = and_from _ _ (eq-eqb _ _ dot) (lt-ltb _ _ (omega (arith, most, some.2.0))) in
      let there : fraction_len xs ≡ 1 + digits_len (drop 1 xs) = cond-true _ _ 0 both in
      omega (arith, len, most, there)
]

-- a digit is none of these bytes
digit-not : (d b : ℕ) → is_ascii_digit d ≡ true → is_ascii_digit b ≡ false → d ≢ b
digit-not d b is not_digit same = false≢true (sym not_digit ∙ ap is_ascii_digit (sym same) ∙ is)

-- digits begin with a digit
first_digit : (digits : List ℕ) → AreDigits is_ascii_digit digits → (d : ℕ) × (more_digits : List ℕ) × (digits ≡ d ∷ more_digits) × (is_ascii_digit d ≡ true)
first_digit [] is = absurd (omega (arith, is.0))
first_digit (d ∷ digits) is = (d, digits, refl, (and_parts (is_ascii_digit d) (list_all is_ascii_digit digits) is.1).0)

no_sign : (xs : List ℕ) (d : ℕ) → byte_at xs 0 ≡ d → is_ascii_digit d ≡ true → sign_len xs ≡ 0
unfolding sign_len
no_sign xs d at is =
    let no_plus : (byte_at xs 0 == 43) ≡ false = ne_eqb _ _ (λ e. digit-not d 43 is refl (sym at ∙ e)) in
    let no_minus : (byte_at xs 0 == 45) ≡ false = ne_eqb _ _ (λ e. digit-not d 45 is refl (sym at ∙ e)) in
    cond-false _ 1 0 (or_from _ _ no_plus no_minus)

some_sign : (xs : List ℕ) → (byte_at xs 0 ≡ 43) ⊎ (byte_at xs 0 ≡ 45) → sign_len xs ≡ 1
unfolding sign_len
some_sign xs (inl plus) = cond-true _ 1 0 (or_left _ (byte_at xs 0 == 45) (eq-eqb _ _ plus))
some_sign xs (inr minus) = cond-true _ 1 0 (or_right (byte_at xs 0 == 43) _ (eq-eqb _ _ minus))

-- the sign that stands before digits
sign_is : (xs digits sign : List ℕ) (m : ℕ) → m ≤ length xs → take m xs ≡ sign ++ digits → IsSign sign → AreDigits is_ascii_digit digits → sign_len xs ≡ length sign
sign_is xs digits sign m h e is are = elim is [
  | inl none ↦
      let d = first_digit digits are in
      no_sign xs d.0 (at_front 0 d.0 d.1 xs m h (e ∙ ap (λ s. s ++ digits) none ∙ d.2)) d.3 ∙ sym (ap length none)
  | inr some ↦ elim some [
    | inl plus ↦ some_sign xs (inl (at_front 0 43 digits xs m h (e ∙ ap (λ s. s ++ digits) plus))) ∙ sym (ap length plus)
    | inr minus ↦ some_sign xs (inr (at_front 0 45 digits xs m h (e ∙ ap (λ s. s ++ digits) minus))) ∙ sym (ap length minus)
  ]
]

exponent_most : (xs : List ℕ) (m : ℕ) → m ≤ length xs → IsExponent (take m xs) → m ≤ exponent_len xs
unfolding exponent_len
exponent_most xs m h is = elim is [
  | inl none ↦
      let zero_len : m ≡ 0 = omega (arith, ap length none, length-take-le m xs h) in
      omega (arith, zero_len)
  | inr some ↦
      let letter = some.0 in
      let sign = some.1 in
      let digits = some.2 in
      let first : byte_at xs 0 ≡ letter = at_front 0 letter (sign ++ digits) xs m h some.3 in
      let len : m ≡ 1 + length sign + length digits = omega (arith, ap length some.3, length-take-le m xs h, length-append sign digits) in
      let tail : take (length (sign ++ digits)) (drop 1 xs) ≡ sign ++ digits = back_at (letter ∷ []) (sign ++ digits) xs m h some.3 in
      let fits : length (sign ++ digits) ≤ length (drop 1 xs) = omega (arith, length-drop 1 xs, length-append sign digits, len) in
      let signs : sign_len (drop 1 xs) ≡ length sign = sign_is (drop 1 xs) digits sign (length (sign ++ digits)) fits tail some.5 some.6 in
      let count = digits_len (drop (1 + sign_len (drop 1 xs)) xs) in
      let place : 1 + sign_len (drop 1 xs) ≡ length (letter ∷ sign) = omega (arith, signs) in
      let behind : take (length digits) (drop (1 + sign_len (drop 1 xs)) xs) ≡ digits =
      ap (λ k. take (length digits) (drop k xs)) place ∙ back_at (letter ∷ sign) digits xs m h some.3 in
      let room : length digits ≤ length (drop (1 + sign_len (drop 1 xs)) xs) = omega (arith, length-drop (1 + sign_len (drop 1 xs)) xs, len, signs) in
      let most : length digits ≤ count = run_most is_ascii_digit (length digits) (drop (1 + sign_len (drop 1 xs)) xs) room (ap (list_all is_ascii_digit) behind ∙ some.6.1) in
      let letters : (byte_at xs 0 == 101 || byte_at xs 0 == 69) ≡ true = elim some.4 [
        | inl small ↦ or_left _ (byte_at xs 0 == 69) (eq-eqb _ _ (first ∙ small))
        | inr large ↦ or_right (byte_at xs 0 == 101) _ (eq-eqb _ _ (first ∙ large))
      ] in
      let both : ((byte_at xs 0 == 101 || byte_at xs 0 == 69) && nat_lt 0 count) ≡ true = and_from _ _ letters (lt-ltb 0 count (omega (arith, most, some.6.0))) in
      let there : exponent_len xs ≡ 1 + sign_len (drop 1 xs) + count = cond-true _ _ 0 both in
      omega (arith, len, most, there, signs)
]

-- a fraction or an exponent doesn't begin with a digit, so nothing of them stands before more digits
no_fraction : (xs : List ℕ) (m d : ℕ) → m ≤ length xs → byte_at xs 0 ≡ d → is_ascii_digit d ≡ true → IsFraction (take m xs) → m ≡ 0
no_fraction xs m d h at is fraction = elim fraction [
  | inl none ↦ omega (arith, ap length none, length-take-le m xs h)
  | inr some ↦ absurd (digit-not d 46 is refl (sym at ∙ at_front 0 46 some.0 xs m h some.1))
]

no_exponent : (xs : List ℕ) (m d : ℕ) → m ≤ length xs → byte_at xs 0 ≡ d → (is_ascii_digit d ≡ true) ⊎ (d ≡ 46) → IsExponent (take m xs) → m ≡ 0
no_exponent xs m d h at is exponent = elim exponent [
  | inl none ↦ omega (arith, ap length none, length-take-le m xs h)
  | inr some ↦
      let first : d ≡ some.0 = sym at ∙ at_front 0 some.0 (some.1 ++ some.2) xs m h some.3 in
      elim is [
        | inl digit ↦ elim some.4 [
          | inl small ↦ absurd (digit-not d 101 digit refl (first ∙ small))
          | inr large ↦ absurd (digit-not d 69 digit refl (first ∙ large))
        ]
        | inr dot ↦ elim some.4 [
          | inl small ↦ absurd (omega (arith, dot, first, small))
          | inr large ↦ absurd (omega (arith, dot, first, large))
        ]
      ]
]

-- what stands behind a part of the fraction
record Next (xs : List ℕ) : Type 0 where
  pub byte : ℕ
  pub at : byte_at xs 0 ≡ byte
  pub is : (is_ascii_digit byte ≡ true) ⊎ (byte ≡ 46)

inside_fraction : (xs : List ℕ) (f : ℕ) → f < fraction_len xs → Next (drop f xs)
unfolding fraction_len
inside_fraction xs f =
    let digits = digits_len (drop 1 xs) in
    cond_both (byte_at xs 0 == 46 && nat_lt 0 digits) (1 + digits) 0 (λ n. f < n → Next (drop f xs))
    (λ both less. next_in xs f (eqb-true _ _ (and_parts (byte_at xs 0 == 46) (nat_lt 0 digits) both).0) less)
    (λ _ less. absurd (omega (arith, less)))
  where
    next_in : (xs : List ℕ) (f : ℕ) → byte_at xs 0 ≡ 46 → f < 1 + digits_len (drop 1 xs) → Next (drop f xs)
    next_in xs zero dot less = record { byte = 46; at = dot; is = inr refl }
    next_in [] (suc f) dot less = absurd (omega (arith, dot))
    next_in (x ∷ xs) (suc f) dot less = record {
      byte = get_or xs f 0;
      at = get_or-drop f xs 0 0 ∙ ap (λ k. get_or xs k 0) (add-zero f);
      is = inl (prefix_len_passes is_ascii_digit xs f 0 (omega (arith, less)));
    }

decimal_least : (xs : List ℕ) → 1 + digits_len (drop 1 xs) + fraction_len (drop (1 + digits_len (drop 1 xs)) xs) ≤ decimal_len xs
unfolding decimal_len
decimal_least xs = omega arith

decimal_whole : (xs : List ℕ) → decimal_len xs ≡ 1 + digits_len (drop 1 xs) + fraction_len (drop (1 + digits_len (drop 1 xs)) xs) + exponent_len (drop (1 + digits_len (drop 1 xs) + fraction_len (drop (1 + digits_len (drop 1 xs)) xs)) xs)
unfolding decimal_len
decimal_whole xs = refl

-- a fraction and an exponent behind all the digits
behind_digits : (xs fraction exponent : List ℕ) (whole : ℕ) → whole ≡ 1 + digits_len (drop 1 xs) → length fraction + length exponent ≤ length (drop whole xs) → take (length fraction + length exponent) (drop whole xs) ≡ fraction ++ exponent → IsFraction fraction → IsExponent exponent → whole + length fraction + length exponent ≤ decimal_len xs
behind_digits xs fraction exponent whole here fits e is_fraction is_exponent =
    let ys = drop whole xs in
    let f = length fraction in
    let x = length exponent in
    let m = f + x in
    let front : take f ys ≡ fraction = front_at fraction exponent ys m fits e in
    let back : take x (drop f ys) ≡ exponent = back_at fraction exponent ys m fits e in
    let most : f ≤ fraction_len ys = fraction_most ys f (omega arith) (subst IsFraction (sym front) is_fraction) in
    let room : x ≤ length (drop f ys) = omega (arith, length-drop f ys) in
    let whole_len : decimal_len xs ≡ whole + fraction_len ys + exponent_len (drop (whole + fraction_len ys) xs) =
    subst (λ w. decimal_len xs ≡ w + fraction_len (drop w xs) + exponent_len (drop (w + fraction_len (drop w xs)) xs)) (sym here) (decimal_whole xs) in
    elim (cases_lt f (fraction_len ys)) [
      | inl less ↦
          let next = inside_fraction ys f less in
          let none : x ≡ 0 = no_exponent (drop f ys) x next.byte room next.at next.is (subst IsExponent (sym back) is_exponent) in
          omega (arith, none, most, whole_len)
      | inr all ↦
          let same : f ≡ fraction_len ys = omega (arith, most, all) in
          let place : drop f ys ≡ drop (whole + fraction_len ys) xs = drop-drop f whole xs ∙ ap (λ k. drop (whole + k) xs) same in
          let longest : x ≤ exponent_len (drop (whole + fraction_len ys) xs) =
          subst (λ zs. x ≤ exponent_len zs) place (exponent_most (drop f ys) x room (subst IsExponent (sym back) is_exponent)) in
          omega (arith, same, longest, whole_len)
    ]

-- a fraction and an exponent before another digit
before_digit : (xs fraction exponent : List ℕ) (whole d : ℕ) → byte_at (drop whole xs) 0 ≡ d → is_ascii_digit d ≡ true → length fraction + length exponent ≤ length (drop whole xs) → take (length fraction + length exponent) (drop whole xs) ≡ fraction ++ exponent → IsFraction fraction → IsExponent exponent → length fraction + length exponent ≡ 0
before_digit xs fraction exponent whole d at is fits e is_fraction is_exponent =
    let ys = drop whole xs in
    let f = length fraction in
    let x = length exponent in
    let m = f + x in
    let front : take f ys ≡ fraction = front_at fraction exponent ys m fits e in
    let back : take x (drop f ys) ≡ exponent = back_at fraction exponent ys m fits e in
    let no_f : f ≡ 0 = no_fraction ys f d (omega arith) at is (subst IsFraction (sym front) is_fraction) in
    let start : drop f ys ≡ ys = ap (λ k. drop k ys) no_f in
    let no_x : x ≡ 0 = no_exponent ys x d (omega arith) at (inl is) (subst IsExponent (sym back ∙ ap (take x) start) is_exponent) in
    omega (arith, no_f, no_x)

whole_most : (b : ℕ) (tail : List ℕ) (w : ℕ) → w ≤ length (b ∷ tail) → list_all is_ascii_digit (take w (b ∷ tail)) ≡ true → w ≤ 1 + digits_len tail
whole_most b tail zero h all = omega arith
whole_most b tail (suc w) h all =
    omega (arith, run_most is_ascii_digit w tail (omega arith) (and_parts (is_ascii_digit b) (list_all is_ascii_digit (take w tail)) all).1)

-- a digit stands behind a part of the digits
record Digit (xs : List ℕ) : Type 0 where
  pub byte : ℕ
  pub at : byte_at xs 0 ≡ byte
  pub is : is_ascii_digit byte ≡ true

next_digit : (b : ℕ) (tail : List ℕ) (w : ℕ) → 0 < w → w < 1 + digits_len tail → Digit (drop w (b ∷ tail))
next_digit b tail zero some less = absurd (omega arith)
next_digit b tail (suc w) some less = record {
  byte = get_or tail w 0;
  at = get_or-drop w tail 0 0 ∙ ap (λ k. get_or tail k 0) (add-zero w);
  is = prefix_len_passes is_ascii_digit tail w 0 (omega (arith, less));
}

decimal_most : (b : ℕ) (tail : List ℕ) (m : ℕ) → m ≤ length (b ∷ tail) → IsDecimal (take m (b ∷ tail)) → m ≤ decimal_len (b ∷ tail)
decimal_most b tail m h is =
    let xs = b ∷ tail in
    let whole = is.0 in
    let fraction = is.1 in
    let exponent = is.2 in
    let rest = fraction ++ exponent in
    let len : length whole + length rest ≡ m = front_len whole rest xs m h is.3 in
    let rest_len : length rest ≡ length fraction + length exponent = length-append fraction exponent in
    let front : take (length whole) xs ≡ whole = front_at whole rest xs m h is.3 in
    let back : take (length fraction + length exponent) (drop (length whole) xs) ≡ rest = ap (λ k. take k (drop (length whole) xs)) (sym rest_len) ∙ back_at whole rest xs m h is.3 in
    let fits : length fraction + length exponent ≤ length (drop (length whole) xs) = omega (arith, length-drop (length whole) xs, len, rest_len) in
    let most : length whole ≤ 1 + digits_len tail = whole_most b tail (length whole) (omega (arith, len)) (ap (list_all is_ascii_digit) front ∙ is.4.1) in
    elim (cases_lt (length whole) (1 + digits_len tail)) [
      | inl less ↦
          let next = next_digit b tail (length whole) is.4.0 less in
          let none : length fraction + length exponent ≡ 0 = before_digit xs fraction exponent (length whole) next.byte next.at next.is fits back is.5 is.6 in
          omega (arith, len, rest_len, none, less, decimal_least xs)
      | inr all ↦
          let same : length whole ≡ 1 + digits_len tail = omega (arith, most, all) in
          omega (arith, len, rest_len, behind_digits xs fraction exponent (length whole) same fits back is.5 is.6)
    ]

hexadecimal_most : (xs : List ℕ) (m : ℕ) → m ≤ length xs → IsHexadecimal (take m xs) → m ≤ hex_len xs
unfolding hex_len
hexadecimal_most xs m h is =
    let digits = is.0 in
    let count = prefix_len is_ascii_hexdigit (drop 2 xs) in
    let len : m ≡ 2 + length digits = omega (arith, ap length is.1, length-take-le m xs h) in
    let behind : take (length digits) (drop 2 xs) ≡ digits = back_at (codes "0x") digits xs m h is.1 in
    let most : length digits ≤ count = run_most is_ascii_hexdigit (length digits) (drop 2 xs) (omega (arith, length-drop 2 xs, len)) (ap (list_all is_ascii_hexdigit) behind ∙ is.2.1) in
    let whole : xs ≡ codes "0x" ++ (digits ++ drop m xs) = sym (take-append-drop m xs) ∙ ap (λ r. r ++ drop m xs) is.1 in
    let begins : starts_with nat_eq xs (codes "0x") ≡ true = (starts_is Decides-eqb xs (codes "0x") (starts_with nat_eq xs (codes "0x")) refl).1 (digits ++ drop m xs) whole in
    let both : (starts_with nat_eq xs (codes "0x") && nat_lt 0 count) ≡ true = and_from _ _ begins (lt-ltb 0 count (omega (arith, most, is.2.0))) in
    let there : hex_len xs ≡ 2 + count = cond-true _ _ 0 both in
    omega (arith, len, most, there)

pub number_most : (b : ℕ) (tail : List ℕ) (m : ℕ) → m ≤ length (b ∷ tail) → IsDecimal (take m (b ∷ tail)) ⊎ IsHexadecimal (take m (b ∷ tail)) → m ≤ number_len (b ∷ tail)
number_most b tail m h (inl decimal) = omega (arith, decimal_most b tail m h decimal)
number_most b tail m h (inr hexadecimal) = omega (arith, hexadecimal_most (b ∷ tail) m h hexadecimal)
