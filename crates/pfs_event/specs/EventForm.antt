-- Which words an event has, apart from the event.
use Rattle.std.specs.Prelude.{ℕ, ◌≡◌, ◌≤◌, ◌/◌, ◌%◌, Bool, true, false, List, slice_index}

-- a flag as a bit
abbrev pub bit_of : Bool → ℕ
bit_of true = 1
bit_of false = 0

-- words 3, 4 and 5 are such as an event has
abbrev pub HasForm : List ℕ → Type 0
HasForm w = (slice_index w 3 % 64 ≤ 62) × (slice_index w 3 / 64 ≤ 64) × (slice_index w 4 / 4 ≤ 4)
    × (slice_index w 5 ≡ 0)
