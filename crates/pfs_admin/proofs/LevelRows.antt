-- The places of a level, one by one, and that the rows of their moves are at hand for no one.
use Rattle.std.proofs.Common.{ℕ, ◌≡◌, ◌<◌, ◌+◌, ◌*◌, List, Option, Some, None, arith}
use Rattle.std.specs.List.{All}
use Rattle.pfs_levels.specs.declared.flushes.Source.{Source}
use Rattle.pfs_levels.specs.declared.flushes.Source.TheVariants as of
use Rattle.pfs_levels.specs.Flushes.{ask_of, beyond, upper, IsBelow, IsSource, CellsAreAway}
use Rattle.pfs_levels.specs.Moves.{IsAway, AreAway, AskIsAway}

-- where no row but row 0 is in hand, the rows of a move aren't
abbrev IsAlone : (ℕ → Option ℕ) → Type 0
IsAlone hand = (r : ℕ) → 0 < r → hand r ≡ None

away_row : (hand : ℕ → Option ℕ) (row : ℕ) → IsAlone hand → 0 < row → row < 14242 → IsAway hand row
away_row hand row alone low high = ((low, high), alone row low)

away_beyond : (hand : ℕ → Option ℕ) (user host : Option ℕ) (cell : ℕ) → IsAlone hand → IsBelow 32 user → IsBelow 32 host → cell < 64
    → AreAway hand (beyond user host cell)
away_beyond hand (Some u) (Some h) cell alone us hs l =
    (away_row hand (4225 + 64 * u + cell) alone (omega arith) (omega (arith, us, l)), (away_row hand (6273 + 64 * h + cell) alone (omega arith) (omega (arith, hs, l)), tt))
away_beyond hand (Some u) None cell alone us hs l =
    (away_row hand (4225 + 64 * u + cell) alone (omega arith) (omega (arith, us, l)), (away_row hand (8321 + cell) alone (omega arith) (omega (arith, l)), tt))
away_beyond hand None (Some h) cell alone us hs l = (away_row hand (6273 + 64 * h + cell) alone (omega arith) (omega (arith, hs, l)), tt)
away_beyond hand None None cell alone us hs l = (away_row hand (8321 + cell) alone (omega arith) (omega (arith, l)), tt)

away_upper : (hand : ℕ → Option ℕ) (account user host : Option ℕ) (cell : ℕ) → IsAlone hand → IsBelow 32 account → IsBelow 32 user → IsBelow 32 host → cell < 64
    → AreAway hand (upper account user host cell)
away_upper hand (Some a) user host cell alone is_account us hs l = (away_row hand (2177 + 64 * a + cell) alone (omega arith) (omega (arith, is_account, l)), tt)
away_upper hand None user host cell alone is_account us hs l = away_beyond hand user host cell alone us hs l

away_ask : (hand : ℕ → Option ℕ) (source : Source) (cell : ℕ) → IsAlone hand → IsSource source → cell < 64 → AskIsAway hand (ask_of source cell)
away_ask hand (of.Thread up) cell alone is l =
    (away_row hand (129 + 64 * up.place + cell) alone (omega arith) (omega (arith, is.0, l)), away_upper hand up.account up.user up.host cell alone is.1 is.2 is.3 l)
away_ask hand (of.Account up) cell alone is l =
    (away_row hand (2177 + 64 * up.place + cell) alone (omega arith) (omega (arith, is.0, l)), away_beyond hand up.user up.host cell alone is.2 is.3 l)
away_ask hand (of.User user) cell alone is l = (away_row hand (4225 + 64 * user + cell) alone (omega arith) (omega (arith, is, l)), tt)
away_ask hand (of.Host host) cell alone is l =
    (away_row hand (6273 + 64 * host + cell) alone (omega arith) (omega (arith, is, l)), (away_row hand (8321 + cell) alone (omega arith) (omega (arith, l)), tt))

pub away_cells : (hand : ℕ → Option ℕ) (cells : List ℕ) (source : Source) → ((r : ℕ) → 0 < r → hand r ≡ None) → IsSource source → All (λ cell. cell < 64) cells
    → CellsAreAway hand cells source
away_cells hand cells source alone is small k d l = away_ask hand source _ alone is (small k d l)
