-- The numbers that are drawn from a number.
use Rattle.std.specs.Prelude.{ℕ, zero, suc, ◌+◌, ◌*◌, ◌/◌, ◌%◌, ◌^◌}

-- what a draw makes of the state
unfoldable pub step : ℕ → ℕ
step x = (6364136223846793005 * x + 1442695040888963407) % 2 ^ 64

-- the state after so many draws, from the number on
unfoldable pub state_after : ℕ → ℕ → ℕ
state_after number zero = number
state_after number (suc draws) = step (state_after number draws)

-- the number that a draw gives; the draws count from 0
unfoldable pub draw : ℕ → ℕ → ℕ
draw number place = state_after number (place + 1) / 2 ^ 33
