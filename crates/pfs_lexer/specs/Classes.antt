-- Classes of bytes.
use Rattle.std.specs.Prelude.{ℕ, ◌==◌, Bool, ◌||◌, ◌&&◌, nat_le, List, slice_index}
use Rattle.std.specs.Char.{is_ascii_digit, is_ascii_alphabetic}

-- white space: tab, line feed, vertical tab, form feed, carriage return, space
abbrev pub is_blank : ℕ → Bool
is_blank b = (nat_le 9 b && nat_le b 13) || b == 32

-- a letter, `_` or `$`
abbrev pub is_word_start : ℕ → Bool
is_word_start b = (is_ascii_alphabetic b || b == 95) || b == 36

-- a letter, a digit, `_` or `$`
abbrev pub is_word_byte : ℕ → Bool
is_word_byte b = is_word_start b || is_ascii_digit b

-- the byte at a place, or 0, which is no part of a token, past the end
abbrev pub byte_at : List ℕ → ℕ → ℕ
byte_at bytes place = slice_index bytes place
