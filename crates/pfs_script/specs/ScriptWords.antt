-- The bytes, words, names and switches of a script's line.
use Rattle.std.specs.Prelude.{ℕ, ◌+◌, Bool, true, false, ◌==◌, ◌&&◌, ◌||◌, nat_lt, nat_le, if◌then◌else◌, List, length, drop, codes, Option, Some, None, option_map, option_and_then, position}
use Rattle.std.specs.List.{list_all, before_first}
use Rattle.std.specs.Str.{bytes_eq}
use Rattle.pfs_script.specs.declared.words.Switches.{Switches}

-- a tab, or a printable byte
abbrev pub is_script_byte : ℕ → Bool
is_script_byte byte = (byte == 9) || (nat_le 32 byte && nat_le byte 126)

abbrev pub is_space : ℕ → Bool
is_space byte = byte == 32

abbrev pub is_dot : ℕ → Bool
is_dot byte = byte == 46

abbrev pub is_letter : ℕ → Bool
is_letter byte = (nat_le 65 byte && nat_le byte 90) || (nat_le 97 byte && nat_le byte 122)

abbrev pub is_decimal : ℕ → Bool
is_decimal byte = nat_le 48 byte && nat_le byte 57

-- what stands behind the first byte that passes the test, where one does
abbrev pub behind_first : (ℕ → Bool) → List ℕ → Option (List ℕ)
behind_first test bytes = option_map (λ at. drop (at + 1) bytes) (position test bytes)

-- the first word of the line: all before the first space
unfoldable pub word_of : List ℕ → List ℕ
word_of bytes = before_first is_space bytes

-- the rest of the line, behind the first space, where there is one
unfoldable pub rest_of : List ℕ → Option (List ℕ)
rest_of bytes = behind_first is_space bytes

-- of `SCHEMA.NAME`, the schema
unfoldable pub schema_of : List ℕ → List ℕ
schema_of bytes = before_first is_dot bytes

-- of `SCHEMA.NAME`, the name, where there is a dot
unfoldable pub table_of : List ℕ → Option (List ℕ)
table_of bytes = behind_first is_dot bytes

-- a word has at least one byte
unfoldable pub is_word : List ℕ → Bool
is_word bytes = nat_lt 0 (length bytes)

-- a letter, a digit, `_`, `.` or `-`
abbrev pub is_name_byte : ℕ → Bool
is_name_byte byte = is_letter byte || is_decimal byte || (byte == 95) || (byte == 46) || (byte == 45)

-- a user's or a host's name, of at least one byte and at most so many
unfoldable pub is_name : ℕ → List ℕ → Bool
is_name most bytes = nat_lt 0 (length bytes) && nat_le (length bytes) most && list_all is_name_byte bytes

-- a letter, a digit, `_` or `$`
abbrev pub is_table_byte : ℕ → Bool
is_table_byte byte = is_letter byte || is_decimal byte || (byte == 95) || (byte == 36)

-- a schema's or a table's name, of 1 to 64 bytes
unfoldable pub is_table_name : List ℕ → Bool
is_table_name bytes = nat_lt 0 (length bytes) && nat_le (length bytes) 64 && list_all is_table_byte bytes

-- `YES` or `NO`
unfoldable pub switch_of : List ℕ → Option Bool
switch_of word = if bytes_eq word (codes "YES") then Some true
    else (if bytes_eq word (codes "NO") then Some false else None)

abbrev pub switches : Bool → Bool → Switches
switches enabled timed = record { enabled = enabled; timed = timed }

-- two of them: whether enabled, whether timed
unfoldable pub switches_of : List ℕ → Option Switches
switches_of words =
    option_and_then (λ enabled. option_map (switches enabled) (option_and_then switch_of (rest_of words)))
    (switch_of (word_of words))
