-- The first byte of a token tells its kind.
use Rattle.std.proofs.Common.{◌≡◌, ◌⊎◌, ℕ, zero, suc, ◌<◌, Bool, true, false, List, [], ◌∷◌, ◌++◌, nat_eq, take, Option, None, Some, refl, ap, sym, ◌∙◌, inl, inr, arith}
use Rattle.std.specs.Prelude.{◌==◌, ◌&&◌, ◌||◌, if◌then◌else◌}
use Rattle.std.specs.List.{list_all, list_any}
use Rattle.std.specs.Str.{bytes_eq}
use Rattle.std.specs.Char.{is_ascii_digit}
use Rattle.std.proofs.lemmas.Bool.{cond-true, cond-false, and_parts, or_cases, or_from, eqb-true, ne_eqb, false≢true}
use Rattle.std.proofs.lemmas.Bool.Decides.{nat_tests}
use Rattle.pfs_lexer.specs.declared.tokens.TokenKind.{TokenKind}
use Rattle.pfs_lexer.specs.declared.tokens.TokenKind.TheVariants.{String, QuotedName, Number, Word, Operator}
use Rattle.pfs_lexer.specs.Classes.{is_word_start}
use Rattle.pfs_lexer.specs.Operators.{singles}
use Rattle.pfs_lexer.specs.TokenGrammar.{IsBetween, AreDigits, IsDecimal, IsHexadecimal, IsToken, spellings}

-- the kind that the first byte tells
abbrev pub kind_of : ℕ → Option TokenKind
kind_of b =
    if b == 39 || b == 34 then Some String
    else if b == 96 then Some QuotedName
    else if is_ascii_digit b then Some Number
    else if is_word_start b then Some Word
    else if list_any (λ operator. operator == b) singles then Some Operator
    else None

start-no_digit : (b : ℕ) → is_word_start b ≡ true → is_ascii_digit b ≡ false
start-no_digit b e = grind (arith, nat_tests)

not_this : (test : ℕ → Bool) (b c : ℕ) → test b ≡ true → test c ≡ false → (b == c) ≡ false
not_this test b c is isnt = ne_eqb b c (λ same. false≢true (sym isnt ∙ ap test (sym same) ∙ is))

pub digit-kind : (b : ℕ) → is_ascii_digit b ≡ true → kind_of b ≡ Some Number
digit-kind b e =
    let no_quote = or_from (b == 39) (b == 34) (not_this is_ascii_digit b 39 e refl) (not_this is_ascii_digit b 34 e refl) in
    cond-false _ _ _ no_quote ∙ cond-false _ _ _ (not_this is_ascii_digit b 96 e refl) ∙ cond-true _ _ _ e

pub start-kind : (b : ℕ) → is_word_start b ≡ true → kind_of b ≡ Some Word
start-kind b e =
    let no_quote = or_from (b == 39) (b == 34) (not_this is_word_start b 39 e refl) (not_this is_word_start b 34 e refl) in
    cond-false _ _ _ no_quote ∙ cond-false _ _ _ (not_this is_word_start b 96 e refl)
    ∙ cond-false _ _ _ (start-no_digit b e) ∙ cond-true _ _ _ e

abbrev is_operator : Option TokenKind → Bool
is_operator (Some Operator) = true
is_operator kind = false

is-operator : (kind : Option TokenKind) → is_operator kind ≡ true → kind ≡ Some Operator
is-operator (Some Operator) e = refl
is-operator kind e = absurd (false≢true e)

-- the first byte of each spelling tells an operator
first_tells : List (List ℕ) → Bool
first_tells [] = true
first_tells ([] ∷ table) = first_tells table
first_tells ((c ∷ bytes) ∷ table) = is_operator (kind_of c) && first_tells table

spelling-tells : (b : ℕ) (xs : List ℕ) (table : List (List ℕ)) → first_tells table ≡ true → list_any (bytes_eq (b ∷ xs)) table ≡ true → is_operator (kind_of b) ≡ true
unfolding first_tells
spelling-tells b xs [] all e = absurd (false≢true e)
spelling-tells b xs ([] ∷ table) all e = spelling-tells b xs table all e
spelling-tells b xs ((c ∷ bytes) ∷ table) all e =
    let parts = and_parts (is_operator (kind_of c)) (first_tells table) all in
    elim (or_cases (nat_eq b c && bytes_eq xs bytes) (list_any (bytes_eq (b ∷ xs)) table) e) [
      | inl here ↦
          let same : b ≡ c = eqb-true b c (and_parts (nat_eq b c) (bytes_eq xs bytes) here).0 in
          ap (λ k. is_operator (kind_of k)) same ∙ parts.0
      | inr later ↦ spelling-tells b xs table parts.1 later
    ]

operator-kind : (b : ℕ) (xs : List ℕ) → list_any (bytes_eq (b ∷ xs)) spellings ≡ true → kind_of b ≡ Some Operator
unfolding first_tells
operator-kind b xs e = is-operator (kind_of b) (spelling-tells b xs spellings refl e)

between-kind : (q b : ℕ) (xs : List ℕ) (kind : TokenKind) → kind_of q ≡ Some kind → IsBetween q (b ∷ xs) → kind_of b ≡ Some kind
between-kind q b xs kind is token =
    let same : b ≡ q = cc (token.1) in
    ap kind_of same ∙ is

decimal-first : (whole rest : List ℕ) (b : ℕ) (xs : List ℕ) → AreDigits is_ascii_digit whole → b ∷ xs ≡ whole ++ rest → is_ascii_digit b ≡ true
decimal-first [] rest b xs are e = absurd (omega (arith, are.0))
decimal-first (d ∷ whole) rest b xs are e =
    let same : b ≡ d = cc e in
    ap is_ascii_digit same ∙ (and_parts (is_ascii_digit d) (list_all is_ascii_digit whole) are.1).0

number-kind : (b : ℕ) (xs : List ℕ) → IsDecimal (b ∷ xs) ⊎ IsHexadecimal (b ∷ xs) → kind_of b ≡ Some Number
number-kind b xs (inl is) = digit-kind b (decimal-first is.0 (is.1 ++ is.2) b xs is.4 is.3)
number-kind b xs (inr is) =
    let same : b ≡ 48 = cc (is.1) in
    ap kind_of same

-- a token of the kind begins with a byte that tells it
pub token-kind : (kind : TokenKind) (b : ℕ) (xs : List ℕ) → IsToken kind (b ∷ xs) → kind_of b ≡ Some kind
token-kind String b xs (inl is) = between-kind 39 b xs String refl is
token-kind String b xs (inr is) = between-kind 34 b xs String refl is
token-kind QuotedName b xs is = between-kind 96 b xs QuotedName refl is
token-kind Number b xs is = number-kind b xs is
token-kind Word b xs is = start-kind b is.0
token-kind Operator b xs is = operator-kind b xs is

pub operator-tells : (b : ℕ) (xs : List ℕ) (n : ℕ) → 0 < n → list_any (bytes_eq (take n (b ∷ xs))) spellings ≡ true → kind_of b ≡ Some Operator
operator-tells b xs zero some is = absurd (omega arith)
operator-tells b xs (suc n) some is = operator-kind b (take n xs) is
