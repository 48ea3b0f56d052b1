-- Numbers.
use Rattle.std.specs.Prelude.{ℕ, ◌+◌, ◌==◌, nat_lt, nat_eq, ◌||◌, ◌&&◌, List, drop, max, codes, if◌then◌else◌}
use Rattle.std.specs.List.{starts_with, prefix_len}
use Rattle.std.specs.Char.{is_ascii_digit, is_ascii_hexdigit}
use Rattle.pfs_lexer.specs.Classes.{byte_at}

-- how many digits stand at the front
abbrev pub digits_len : List ℕ → ℕ
digits_len bytes = prefix_len is_ascii_digit bytes

-- `.` and digits, at least one, or nothing
unfoldable pub fraction_len : List ℕ → ℕ
fraction_len bytes =
    let digits = digits_len (drop 1 bytes) in
    if byte_at bytes 0 == 46 && nat_lt 0 digits then 1 + digits else 0

-- a sign, or nothing
unfoldable pub sign_len : List ℕ → ℕ
sign_len bytes = if byte_at bytes 0 == 43 || byte_at bytes 0 == 45 then 1 else 0

-- `e` or `E`, a sign if there is one, and digits, at least one, or nothing
unfoldable pub exponent_len : List ℕ → ℕ
exponent_len bytes =
    let sign = sign_len (drop 1 bytes) in
    let digits = digits_len (drop (1 + sign) bytes) in
    if (byte_at bytes 0 == 101 || byte_at bytes 0 == 69) && nat_lt 0 digits then 1 + sign + digits else 0

-- digits, of which the first is there, then a fraction and an exponent where they stand
unfoldable pub decimal_len : List ℕ → ℕ
decimal_len bytes =
    let whole = 1 + digits_len (drop 1 bytes) in
    let fraction = fraction_len (drop whole bytes) in
    whole + fraction + exponent_len (drop (whole + fraction) bytes)

-- `0x` and hexadecimal digits, at least one, or nothing
unfoldable pub hex_len : List ℕ → ℕ
hex_len bytes =
    let digits = prefix_len is_ascii_hexdigit (drop 2 bytes) in
    if starts_with nat_eq bytes (codes "0x") && nat_lt 0 digits then 2 + digits else 0

-- the longer of the two, where a digit stands first
abbrev pub number_len : List ℕ → ℕ
number_len bytes = max (hex_len bytes) (decimal_len bytes)
