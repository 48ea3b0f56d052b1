-- What one token says where a keyword, a name, a number or a text is due.
use Rattle.std.specs.Prelude.{ℕ, ◌<◌, ◌^◌, ◌||◌, ◌&&◌, Bool, true, false, nat_lt, nat_le, List, [], ◌∷◌, length, take, drop, codes, Option, None, Some, if◌then◌else◌}
use Rattle.std.specs.Char.{is_digit}
use Rattle.std.specs.List.{list_all}
use Rattle.std.specs.Option.{option_map}
use Rattle.std.specs.Str.{str_eq_ignore_ascii_case}
use Rattle.std.specs.Str.Parse.{digits_value}
use Rattle.pfs_text.specs.declared.conditions.Comparison.{Comparison}
use Rattle.pfs_text.specs.declared.conditions.Literal.{Literal}
use Rattle.pfs_text.specs.declared.conditions.Literal.TheVariants.{Number as NumberLiteral, Text as TextLiteral}
use Rattle.pfs_sql.specs.declared.token.Token.{Token}
use Rattle.pfs_sql.specs.declared.token.Token.TheVariants.{Word, Quoted, Compares, Comma, Open, Close, Star, Semicolon}
use Rattle.pfs_sql.specs.Tokens.{is_name_byte}

-- the keyword, in any case
abbrev pub is_key : List ℕ → Token → Bool
is_key key (Word word) = str_eq_ignore_ascii_case word key
is_key key token = false

abbrev pub is_comma : Token → Bool
is_comma Comma = true
is_comma token = false

abbrev pub is_open : Token → Bool
is_open Open = true
is_open token = false

abbrev pub is_close : Token → Bool
is_close Close = true
is_close token = false

abbrev pub is_star : Token → Bool
is_star Star = true
is_star token = false

abbrev pub is_semicolon : Token → Bool
is_semicolon Semicolon = true
is_semicolon token = false

-- letters, digits and `_`, at least one
abbrev pub is_name : List ℕ → Bool
is_name word = nat_lt 0 (length word) && list_all is_name_byte word

-- the column that a word names: the word itself, with no schema and no table before it
abbrev pub name_of : List ℕ → Option (List ℕ)
name_of word = if is_name word then Some word else None

-- the schema's name and the dot behind it, in any case
abbrev pub has_schema : List ℕ → Bool
has_schema word = nat_le 19 (length word) && str_eq_ignore_ascii_case (take 19 word) (codes "performance_schema.")

-- the table that a word names: the word itself, or what stands behind the schema
abbrev pub table_of : List ℕ → Option (List ℕ)
table_of word = if has_schema word then name_of (drop 19 word) else name_of word

-- the number that a word writes: decimal digits, up to 2^64 - 1, leading zeros allowed
abbrev pub number_of : List ℕ → Option ℕ
number_of word =
    if (nat_lt 0 (length word) && list_all (λ c. is_digit c 10) word) && nat_lt (digits_value 10 word) (2 ^ 64)
    then Some (digits_value 10 word) else None

abbrev pub name_in : Token → Option (List ℕ)
name_in (Word word) = name_of word
name_in token = None

abbrev pub table_in : Token → Option (List ℕ)
table_in (Word word) = table_of word
table_in token = None

abbrev pub number_in : Token → Option ℕ
number_in (Word word) = number_of word
number_in token = None

abbrev pub text_in : Token → Option (List ℕ)
text_in (Quoted text) = Some text
text_in token = None

abbrev pub comparison_in : Token → Option Comparison
comparison_in (Compares comparison) = Some comparison
comparison_in token = None

-- a number or a text
abbrev pub literal_in : Token → Option Literal
literal_in (Word word) = option_map NumberLiteral (number_of word)
literal_in (Quoted text) = Some (TextLiteral text)
literal_in token = None
