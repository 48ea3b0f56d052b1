-- What a token is, byte by byte.
use Rattle.std.specs.Prelude.{◌≡◌, ◌≢◌, ℕ, ◌<◌, ◌==◌, Bool, true, not, ◌||◌, List, [], ◌∷◌, ◌++◌, length, codes, ◌⊎◌}
use Rattle.std.specs.List.{list_all, list_any}
use Rattle.std.specs.Str.{bytes_eq}
use Rattle.std.specs.Char.{is_ascii_digit, is_ascii_hexdigit}
use Rattle.pfs_lexer.specs.declared.tokens.TokenKind.{TokenKind}
use Rattle.pfs_lexer.specs.declared.tokens.TokenKind.TheVariants.{String, QuotedName, Number, Word, Operator}
use Rattle.pfs_lexer.specs.Classes.{is_blank, is_word_start, is_word_byte}
use Rattle.pfs_lexer.specs.Operators.{singles}

-- a byte that stands for itself between these quotes
abbrev pub IsPlain : ℕ → ℕ → Type 0
IsPlain quote b = (b ≢ quote) × ((quote ≡ 96) ⊎ (b ≢ 92))

-- two bytes that stand for one: the quote doubled, or, but between backquotes, `\` and any byte
abbrev pub IsDoubled : ℕ → ℕ → ℕ → Type 0
IsDoubled quote b c = ((b ≡ quote) × (c ≡ quote)) ⊎ ((quote ≢ 96) × (b ≡ 92))

-- such bytes and pairs of bytes
abbrev pub IsBody : ℕ → List ℕ → Type 0
IsBody quote [] = Unit {0}
IsBody quote (b ∷ []) = IsPlain quote b
IsBody quote (b ∷ c ∷ bytes) = (IsPlain quote b × IsBody quote (c ∷ bytes)) ⊎ (IsDoubled quote b c × IsBody quote bytes)

-- from quote to quote
abbrev pub IsBetween : ℕ → List ℕ → Type 0
IsBetween quote bytes = (body : List ℕ) × (bytes ≡ quote ∷ (body ++ quote ∷ [])) × IsBody quote body

-- digits of a class, at least one
abbrev pub AreDigits : (ℕ → Bool) → List ℕ → Type 0
AreDigits test bytes = (0 < length bytes) × (list_all test bytes ≡ true)

-- `.` and digits, or nothing
abbrev pub IsFraction : List ℕ → Type 0
IsFraction bytes = (bytes ≡ []) ⊎ ((digits : List ℕ) × (bytes ≡ 46 ∷ digits) × AreDigits is_ascii_digit digits)

-- `+`, `-` or nothing
abbrev pub IsSign : List ℕ → Type 0
IsSign bytes = (bytes ≡ []) ⊎ ((bytes ≡ codes "+") ⊎ (bytes ≡ codes "-"))

-- `e` or `E`, a sign and digits, or nothing
abbrev pub IsExponent : List ℕ → Type 0
IsExponent bytes = (bytes ≡ []) ⊎ ((letter : ℕ) × (sign : List ℕ) × (digits : List ℕ)
    × (bytes ≡ letter ∷ (sign ++ digits)) × ((letter ≡ 101) ⊎ (letter ≡ 69)) × IsSign sign
    × AreDigits is_ascii_digit digits)

abbrev pub IsDecimal : List ℕ → Type 0
IsDecimal bytes = (whole : List ℕ) × (fraction : List ℕ) × (exponent : List ℕ)
    × (bytes ≡ whole ++ (fraction ++ exponent)) × AreDigits is_ascii_digit whole × IsFraction fraction
    × IsExponent exponent

abbrev pub IsHexadecimal : List ℕ → Type 0
IsHexadecimal bytes = (digits : List ℕ) × (bytes ≡ codes "0x" ++ digits) × AreDigits is_ascii_hexdigit digits

-- a letter, `_` or `$`, and letters, digits, `_` and `$`
abbrev pub IsWord : List ℕ → Type 0
IsWord [] = ⊥
IsWord (b ∷ bytes) = (is_word_start b ≡ true) × (list_all is_word_byte bytes ≡ true)

-- each operator by its spelling
abbrev pub spellings : List (List ℕ)
spellings =
    codes "<=>" ∷ codes "<=" ∷ codes ">=" ∷ codes "<>" ∷ codes "!=" ∷ codes "||" ∷ codes "&&"
    ∷ codes ":=" ∷ codes "<<" ∷ codes ">>" ∷ codes "(" ∷ codes ")" ∷ codes "," ∷ codes "."
    ∷ codes ";" ∷ codes "+" ∷ codes "-" ∷ codes "*" ∷ codes "/" ∷ codes "%" ∷ codes "="
    ∷ codes "<" ∷ codes ">" ∷ codes "!" ∷ codes "&" ∷ codes "|" ∷ codes "^" ∷ codes "~"
    ∷ codes "?" ∷ codes ":" ∷ codes "@" ∷ codes "{" ∷ codes "}" ∷ []

abbrev pub IsOperator : List ℕ → Type 0
IsOperator bytes = list_any (bytes_eq bytes) spellings ≡ true

-- the bytes are a token of the kind
abbrev pub IsToken : TokenKind → List ℕ → Type 0
IsToken String bytes = IsBetween 39 bytes ⊎ IsBetween 34 bytes
IsToken QuotedName bytes = IsBetween 96 bytes
IsToken Number bytes = IsDecimal bytes ⊎ IsHexadecimal bytes
IsToken Word bytes = IsWord bytes
IsToken Operator bytes = IsOperator bytes

-- the byte begins no white space, no comment and no token: each longer operator begins with one of a single byte
abbrev pub begins_nothing : ℕ → Bool
begins_nothing b =
    not (is_blank b || (b == 35
    || (b == 39 || (b == 34 || (b == 96 || (is_word_byte b || list_any (λ operator. operator == b) singles))))))
