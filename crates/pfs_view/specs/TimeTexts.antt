-- A time in picoseconds as a text with its unit.
use Rattle.std.specs.Prelude.{ℕ, ◌+◌, ◌*◌, ◌/◌, ◌%◌, nat_lt, nat_le, if◌then◌else◌, List, [], ◌∷◌, ◌++◌, Option, Some, None, codes, decimal}
use Rattle.std.specs.Option.{option_map_or}
use Rattle.pfs_view.specs.declared.times.Unit.{Unit}
use Rattle.pfs_view.specs.declared.times.Unit.TheVariants.{Week, Day, Hour, Minute, Second, Millisecond, Microsecond, Nanosecond}

-- a hundredth of a unit, in picoseconds
abbrev pub step_of : Unit → ℕ
step_of Week = 6048000000000000
step_of Day = 864000000000000
step_of Hour = 36000000000000
step_of Minute = 600000000000
step_of Second = 10000000000
step_of Millisecond = 10000000
step_of Microsecond = 10000
step_of Nanosecond = 10

abbrev pub unit_name : Unit → List ℕ
unit_name Week = codes " w"
unit_name Day = codes " d"
unit_name Hour = codes " h"
unit_name Minute = codes " m"
unit_name Second = codes " s"
unit_name Millisecond = codes " ms"
unit_name Microsecond = codes " us"
unit_name Nanosecond = codes " ns"

-- the largest unit of which this is one at least
abbrev pub unit_of : ℕ → Option Unit
unit_of n =
    if nat_le 604800000000000000 n then Some Week
    else if nat_le 86400000000000000 n then Some Day
    else if nat_le 3600000000000000 n then Some Hour
    else if nat_le 60000000000000 n then Some Minute
    else if nat_le 1000000000000 n then Some Second
    else if nat_le 1000000000 n then Some Millisecond
    else if nat_le 1000000 n then Some Microsecond
    else if nat_le 1000 n then Some Nanosecond
    else None

-- how many steps that is, to the nearest, a half upwards
abbrev pub nearest : ℕ → ℕ → ℕ
nearest n step = if nat_lt (n % step * 2) step then n / step else n / step + 1

abbrev pub hundredths_text : ℕ → List ℕ
hundredths_text n = decimal (n / 100) ++ (46 ∷ (48 + n / 10 % 10) ∷ (48 + n % 10) ∷ [])

abbrev pub amount_text : ℕ → Unit → List ℕ
amount_text n unit = hundredths_text (nearest n (step_of unit)) ++ unit_name unit

abbrev pub time_text : ℕ → List ℕ
time_text n = option_map_or (amount_text n) (unit_of n) (decimal n ++ codes " ps")
