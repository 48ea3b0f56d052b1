-- Numbers and their decimal texts.
use Rattle.std.specs.Prelude.{◌≡◌, ℕ, ◌<◌, ◌^◌, decimal}
use Rattle.std.specs.Str.Parse.{IsNumeral, digits_value}

-- what is written of a number is a numeral, and writes that number
abbrev pub DecimalsReadBack : Type 0
DecimalsReadBack = (n : ℕ) → n < 2 ^ 64 → IsNumeral 10 (decimal n) × (digits_value 10 (decimal n) ≡ n)
