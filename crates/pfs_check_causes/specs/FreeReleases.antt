-- Releases at or above a floor.
use Rattle.std.specs.Prelude.{ℕ, nat_le, Bool, false, Option, Some, None}

-- the greatest release, where there is one, is at the floor or above
abbrev pub reaches : Option ℕ → ℕ → Bool
reaches None floor = false
reaches (Some last) floor = nat_le floor last
