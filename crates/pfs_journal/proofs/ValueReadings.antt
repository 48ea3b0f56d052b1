-- Values that are read from the front of a text.
use Rattle.std.proofs.Common.{ℕ, ◌≡◌, ◌≢◌, ◌-◌, ◌<◌, Bool, true, false, eqb, Option, List, [], ◌∷◌, ◌++◌, length, take, drop, length-append, append_assoc, sym, ap, subst, ◌∙◌, refl, arith}
use Rattle.std.specs.Prelude.{codes, decimal, MatchOption, if◌then◌else◌}
use Rattle.std.specs.List.{All, flat_map}
use Rattle.std.specs.Str.Parse.{IsNumeral}
use Rattle.std.specs.Char.{digit_value}
use Rattle.std.proofs.lemmas.Fmt.{decimal_is_IsNumeral}
use Rattle.pfs_text.specs.QuotedTexts.{BeginsPlain, IsQuotedFront, doubled, quoted}
use Rattle.pfs_text.proofs.QuoteLaws.{quotes_are_exact}
use Rattle.pfs_text.specs.declared.values.RowValue.{RowValue}
use Rattle.pfs_text.specs.declared.values.RowValue.TheVariants as value
use Rattle.pfs_journal.specs.Spelling.{field_text, value_text}
use Rattle.std.specs.Str.{bytes_eq}
use Rattle.std.proofs.lemmas.Slice.Eq.{bytes_eq-Decides}
use Rattle.pfs_journal.specs.LineWords.{IsBehind, FitsValue, Fits, front_word, behind_word}
use Rattle.pfs_journal.proofs.WordReadings.{word_front, number_clean}

-- what stands behind a value begins with no quote
pub behind_plain : (behind : List ℕ) → IsBehind behind → BeginsPlain behind
behind_plain [] stops = tt
behind_plain (b ∷ behind) stops = λ quote. no_quote b b stops quote refl
  where
    no_quote : (n : ℕ) (m : ℕ) → n ≡ 32 → m ≡ 39 → n ≡ m → ⊥
    no_quote n m a b e = omega (arith, a, b, e)

-- a text's value, behind its space
pub text_rest : (bytes text behind : List ℕ) → 32 ∷ bytes ≡ value_text (value.Text text) ++ behind → bytes ≡ quoted text ++ behind
unfolding value_text
text_rest bytes text behind same = let x : 32 ∷ bytes ≡ 32 ∷ (quoted text ++ behind) = same in cc

pub null_rest : (bytes behind : List ℕ) → 32 ∷ bytes ≡ value_text value.Null ++ behind → bytes ≡ codes "NULL" ++ behind
unfolding value_text
null_rest bytes behind same = let x : 32 ∷ bytes ≡ 32 ∷ (codes "NULL" ++ behind) = same in cc

pub number_rest : (bytes behind : List ℕ) (n : ℕ) → 32 ∷ bytes ≡ value_text (value.Number n) ++ behind → bytes ≡ decimal n ++ behind
unfolding value_text field_text
number_rest bytes behind n same = let x : 32 ∷ bytes ≡ 32 ∷ (decimal n ++ behind) = same in cc

quote_first : (bytes : List ℕ) (n : ℕ) → IsQuotedFront bytes n → (more : List ℕ) × (bytes ≡ 39 ∷ more)
quote_first bytes n (text, rest, same, size, plain) = ((flat_map doubled text ++ 39 ∷ []) ++ rest, same)

no_quoted_digits : (digits behind bytes : List ℕ) (n : ℕ) → IsNumeral 10 digits → bytes ≡ digits ++ behind → IsQuotedFront bytes n → ⊥
no_quoted_digits [] behind bytes n numeral same q = omega (arith, numeral.0)
no_quoted_digits (d ∷ digits) behind bytes n numeral same q =
    let first = quote_first bytes n q in
    let both : d ∷ (digits ++ behind) ≡ 39 ∷ first.0 = sym same ∙ first.1 in
    let is : d ≡ 39 = cc in
    no_digit (subst (λ (k : ℕ). digit_value k < 10) is numeral.1.0)
  where
    no_digit : ¬ (digit_value 39 < 10)
    no_digit h = omega (arith, h)

no_quoted_null : (bytes behind : List ℕ) (n : ℕ) → bytes ≡ codes "NULL" ++ behind → IsQuotedFront bytes n → ⊥
no_quoted_null bytes behind n same q =
    let first = quote_first bytes n q in
    let both : 78 ∷ (codes "ULL" ++ behind) ≡ 39 ∷ first.0 = sym same ∙ first.1 in
    let heads : codes "N" ≡ 39 ∷ [] = ap (take 1) both in
    absurd (cc heads)

-- a value that is no text has no quoted text in front
pub plain_only : (v : RowValue) (bytes behind : List ℕ) (n : ℕ) → FitsValue v → 32 ∷ bytes ≡ value_text v ++ behind → IsQuotedFront bytes n → (text : List ℕ) × (v ≡ value.Text text)
plain_only value.Null bytes behind n fits same q = absurd (no_quoted_null bytes behind n (null_rest bytes behind same) q)
plain_only (value.Number m) bytes behind n fits same q = absurd (no_quoted_digits (decimal m) behind bytes n (decimal_is_IsNumeral m fits).0 (number_rest bytes behind m same) q)
plain_only (value.Text text) bytes behind n fits same q = (text, refl)

pub no_fit : (xs : List ℕ) → All (λ (b : ℕ). Unit {0}) xs
no_fit xs = λ k d inside. tt

pub doubled_some : (b : ℕ) (more : List ℕ) → doubled b ++ more ≢ []
doubled_some b more e = by_test (eqb b 39) e
  where
    by_test : (v : Bool) → (if v then b ∷ b ∷ [] else b ∷ []) ++ more ≡ [] → ⊥
    by_test true e = absurd (cc)
    by_test false e = absurd (cc)

take_front : (a : List ℕ) (n : ℕ) (b : List ℕ) → n ≡ length a → take n (a ++ b) ≡ a
take_front [] n b e = ap (λ (k : ℕ). take k b) e
take_front (x ∷ a) n b e = ap (λ (k : ℕ). take k (x ∷ (a ++ b))) e ∙ ap (λ (z : List ℕ). x ∷ z) (take_front a (length a) b refl)

drop_front : (a : List ℕ) (n : ℕ) (b : List ℕ) → n ≡ length a → drop n (a ++ b) ≡ b
drop_front [] n b e = ap (λ (k : ℕ). drop k b) e
drop_front (x ∷ a) n b e = ap (λ (k : ℕ). drop k (x ∷ (a ++ b))) e ∙ drop_front a (length a) b refl

-- the length that was found is that of the text
length_told : (bytes text behind : List ℕ) (n : ℕ) → IsQuotedFront bytes n → IsBehind behind → bytes ≡ quoted text ++ behind → n ≡ length (quoted text)
length_told bytes text behind n q stops same = quotes_are_exact.one_length bytes n (length (quoted text)) q (text, behind, same, refl, behind_plain behind stops)

pub inside_told : (bytes text behind : List ℕ) (n : ℕ) → IsQuotedFront bytes n → IsBehind behind → bytes ≡ quoted text ++ behind → take (n - 1 - 1) (drop 1 bytes) ≡ flat_map doubled text
inside_told bytes text behind n q stops same =
    let size = length_told bytes text behind n q stops same in
    let sum = length-append (flat_map doubled text) (39 ∷ []) in
    let count : n - 1 - 1 ≡ length (flat_map doubled text) = omega (arith, size, sum) in
    ap (λ (z : List ℕ). take (n - 1 - 1) (drop 1 z)) same
    ∙ (ap (take (n - 1 - 1)) (append_assoc (flat_map doubled text) (39 ∷ []) behind)
    ∙ take_front (flat_map doubled text) (n - 1 - 1) (39 ∷ behind) count)

pub behind_told : (bytes text behind : List ℕ) (n : ℕ) → IsQuotedFront bytes n → IsBehind behind → bytes ≡ quoted text ++ behind → take (length bytes - n) (drop n bytes) ≡ behind
behind_told bytes text behind n q stops same =
    let size = length_told bytes text behind n q stops same in
    let rest : drop n bytes ≡ behind = ap (drop n) same ∙ drop_front (quoted text) n behind size in
    let sum = length-append (quoted text) behind in
    let long = ap length same in
    let count : length bytes - n ≡ length behind = omega (arith, size, sum, long) in
    ap (take (length bytes - n)) rest ∙ (ap (λ (k : ℕ). take k behind) count ∙ whole behind)
  where
    whole : (xs : List ℕ) → take (length xs) xs ≡ xs
    whole [] = refl
    whole (x ∷ xs) = ap (λ (z : List ℕ). x ∷ z) (whole xs)

-- a value with no quoted text in front is none or a number
pub plain_told : {X : Type 0} (f : X → RowValue) (g : X → List ℕ) (r : Option X) (said : RowValue) (bytes behind : List ℕ) → ((n : ℕ) → ¬ IsQuotedFront bytes n) → FitsValue said → IsBehind behind → 32 ∷ bytes ≡ value_text said ++ behind
    → ((b : List ℕ) → IsBehind b → bytes ≡ codes "NULL" ++ b → MatchOption r ⊥ (λ x. (f x ≡ value.Null) × (g x ≡ b)))
    → ((n : ℕ) (b : List ℕ) → Fits n → IsBehind b → bytes ≡ decimal n ++ b → MatchOption r ⊥ (λ x. (f x ≡ value.Number n) × (g x ≡ b)))
    → MatchOption r ⊥ (λ x. (f x ≡ said) × (g x ≡ behind))
plain_told f g r value.Null bytes behind not fits stops same null number = null behind stops (null_rest bytes behind same)
plain_told f g r (value.Number n) bytes behind not fits stops same null number = number n behind fits stops (number_rest bytes behind n same)
plain_told f g r (value.Text text) bytes behind not fits stops same null number =
    absurd (not (length (quoted text)) (text, behind, text_rest bytes text behind same, refl, behind_plain behind stops))

-- a number's word
pub number_word : (bytes behind : List ℕ) (n : ℕ) → Fits n → IsBehind behind → bytes ≡ decimal n ++ behind → (front_word bytes ≡ decimal n) × (behind_word bytes ≡ behind)
number_word bytes behind n fits stops same =
    let told = word_front (decimal n) behind (number_clean n fits) stops in
    (ap front_word same ∙ told.0, ap behind_word same ∙ told.1)

pub null_no_number : (w : List ℕ) (n : ℕ) → Fits n → bytes_eq w (codes "NULL") ≡ true → w ≡ decimal n → ⊥
null_no_number w n fits test same =
    let is : w ≡ codes "NULL" = (bytes_eq-Decides w (codes "NULL")).0 test in
    no_digit (subst (λ (z : List ℕ). IsNumeral 10 z) (sym same ∙ is) (decimal_is_IsNumeral n fits).0).1.0
  where
    no_digit : ¬ (digit_value 78 < 10)
    no_digit h = omega (arith, h)

-- a space stands in front of a value
pub value_space : (v : RowValue) (behind : List ℕ) → (tail : List ℕ) × (value_text v ++ behind ≡ 32 ∷ tail)
unfolding value_text field_text
value_space value.Null behind = (codes "NULL" ++ behind, refl)
value_space (value.Number n) behind = (decimal n ++ behind, refl)
value_space (value.Text text) behind = (quoted text ++ behind, refl)

pub value_some : (v : RowValue) (more : List ℕ) → value_text v ++ more ≢ []
value_some v more e =
    let space = value_space v more in
    let both : 32 ∷ space.0 ≡ [] = sym space.1 ∙ e in
    absurd (cc)
