-- What is asked of the words of a line.
use Rattle.std.specs.Prelude.{ℕ, ◌/◌, ◌%◌, ◌==◌, nat_le, Bool, false, not, ◌&&◌, ◌||◌, if◌then◌else◌, Option, Some, None}

abbrev pub busy_test : ℕ → ℕ → Bool
busy_test first second =
    if second == first then first % 4 == 1
    else (nat_le (first / 4) (second / 4) && (not (second / 4 == first / 4) || not (second % 4 == 2)))

-- up to a phase's end, where the first release was in this one
abbrev pub freed_up_to : Option ℕ → ℕ → Bool
freed_up_to None phase = false
freed_up_to (Some first) phase = nat_le first phase
