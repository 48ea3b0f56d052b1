-- Decimal numbers, as a script has them.
use Rattle.std.specs.Prelude.{ℕ, Bool, ◌&&◌, nat_lt, if◌then◌else◌, List, length, Option, Some, None, option_map, option_and_then}
use Rattle.std.specs.List.{list_all}
use Rattle.std.specs.Char.{digit_value}
use Rattle.std.specs.Str.Parse.{digits_value}
use Rattle.pfs_script.specs.declared.forms.Numbers.{Numbers}
use Rattle.pfs_script.specs.declared.numerals.First.{First}
use Rattle.pfs_script.specs.ScriptWords.{word_of, rest_of}

abbrev pub is_digit : ℕ → Bool
is_digit byte = nat_lt (digit_value byte) 10

-- one or more digits; zeros may lead
unfoldable pub is_numeral : List ℕ → Bool
is_numeral text = nat_lt 0 (length text) && list_all is_digit text

-- the number, where it is up to 2^64 - 1
abbrev pub number_below : ℕ → Option ℕ
number_below value = if nat_lt value 18446744073709551616 then Some value else None

-- the number that a numeral writes: of a text that is none, nothing; of one over 2^64 - 1, that there is no such number
unfoldable pub number_of : List ℕ → Option (Option ℕ)
number_of text = if is_numeral text then Some (number_below (digits_value 10 text)) else None

abbrev pub first : List ℕ → Option ℕ → First
first rest number = record { number = number; rest = rest }

-- a first word that is a numeral, and what stands behind it
unfoldable pub first_of : List ℕ → Option First
first_of words = option_and_then (λ number. option_map (λ rest. first rest number) (rest_of words))
    (number_of (word_of words))

-- six numerals
unfoldable pub numbers_of : List ℕ → Option Numbers
numbers_of words =
    option_and_then (λ (lock : First).
    option_and_then (λ (errors : First).
    option_and_then (λ (warnings : First).
    option_and_then (λ (affected : First).
    option_and_then (λ (sent : First).
    option_map (λ examined. record {
      lock = lock.number;
      errors = errors.number;
      warnings = warnings.number;
      affected = affected.number;
      sent = sent.number;
      examined = examined;
    }) (number_of sent.rest))
    (first_of affected.rest))
    (first_of warnings.rest))
    (first_of errors.rest))
    (first_of lock.rest))
    (first_of words)
