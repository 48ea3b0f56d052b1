-- How a text is cut into tokens.
use Rattle.std.specs.Prelude.{◌≡◌, ℕ, ◌==◌, ◌<◌, ◌||◌, ◌⊎◌, Bool, true, false, List, [], ◌∷◌, ◌++◌, length, codes}
use Rattle.std.specs.Char.{is_ascii_digit, is_ascii_alphabetic}
use Rattle.std.specs.List.{list_all}
use Rattle.pfs_text.specs.declared.conditions.Comparison.{Comparison}
use Rattle.pfs_text.specs.declared.conditions.Comparison.TheVariants.{Equal, Unequal, Less, AtMost, Greater, AtLeast}
use Rattle.pfs_text.specs.QuotedTexts.{quoted}
use Rattle.pfs_sql.specs.declared.token.Token.{Token}
use Rattle.pfs_sql.specs.declared.token.Token.TheVariants.{Word, Quoted, Compares, Comma, Open, Close, Star, Semicolon}

-- a space or a tab
abbrev pub is_blank : ℕ → Bool
is_blank b = b == 32 || b == 9

-- a letter, a digit or `_`
abbrev pub is_name_byte : ℕ → Bool
is_name_byte b = (is_ascii_alphabetic b || is_ascii_digit b) || b == 95

-- a byte of a name, or the dot between a schema and its table
abbrev pub is_word_byte : ℕ → Bool
is_word_byte b = is_name_byte b || b == 46

-- the spelling of a comparison
abbrev pub IsSign : Comparison → List ℕ → Type 0
IsSign Equal bytes = bytes ≡ codes "="
IsSign Unequal bytes = (bytes ≡ codes "<>") ⊎ (bytes ≡ codes "!=")
IsSign Less bytes = bytes ≡ codes "<"
IsSign AtMost bytes = bytes ≡ codes "<="
IsSign Greater bytes = bytes ≡ codes ">"
IsSign AtLeast bytes = bytes ≡ codes ">="

-- the bytes are the token's
abbrev pub IsToken : Token → List ℕ → Type 0
IsToken (Word word) bytes = (bytes ≡ word) × (0 < length word) × (list_all is_word_byte word ≡ true)
IsToken (Quoted text) bytes = bytes ≡ quoted text
IsToken (Compares comparison) bytes = IsSign comparison bytes
IsToken Comma bytes = bytes ≡ codes ","
IsToken Open bytes = bytes ≡ codes "("
IsToken Close bytes = bytes ≡ codes ")"
IsToken Star bytes = bytes ≡ codes "*"
IsToken Semicolon bytes = bytes ≡ codes ";"

-- with this byte behind it the token would be a longer one: each token is the longest that stands there
abbrev pub goes_on : Token → ℕ → Bool
goes_on (Word word) b = is_word_byte b
goes_on (Quoted text) b = b == 39
goes_on (Compares Less) b = b == 61 || b == 62
goes_on (Compares Greater) b = b == 61
goes_on token b = false

-- the token ends where these bytes begin
abbrev pub EndsAt : Token → List ℕ → Type 0
EndsAt token [] = Unit {0}
EndsAt token (b ∷ bytes) = goes_on token b ≡ false

-- the token stands at the front of the bytes, and the rest behind it
abbrev pub Begins : Token → List ℕ → List ℕ → Type 0
Begins token bytes rest = (front : List ℕ) × IsToken token front × (bytes ≡ front ++ rest) × EndsAt token rest

-- the text is these tokens, with blanks before, between and behind them where there are any
abbrev pub AreTokens : List ℕ → List Token → Type 0
AreTokens text [] = list_all is_blank text ≡ true
AreTokens text (token ∷ tokens) = (blanks : List ℕ) × (bytes : List ℕ) × (rest : List ℕ)
    × (list_all is_blank blanks ≡ true) × (text ≡ blanks ++ bytes) × Begins token bytes rest × AreTokens rest tokens
