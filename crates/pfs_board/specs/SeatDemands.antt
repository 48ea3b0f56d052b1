-- What the calls ask of a seat and its board.
use Rattle.std.specs.Prelude.{◌≡◌, ℕ, ◌*◌, ◌^◌, ◌<◌, true, List, [], length}
use Rattle.atomic_table.specs.Seated.{TableId}
use Rattle.pfs_board.specs.declared.view.Stage.{Stage}
use Rattle.pfs_board.specs.declared.view.Stage.TheVariants.{Idle, Reading, Holding}
use Rattle.pfs_board.specs.declared.view.View.{View}
use Rattle.pfs_board.specs.Knowledge.{corner, version_held, found_in}

-- the seat is at this table, whose opening words are `start`, and has the row
pub record IsAt (seat table : TableId) (start : List ℕ) (v : View) (row : ℕ) : Type 0 where
  pub same : seat ≡ table
  pub words : table.words ≡ length start
  pub small : table.words < 2 ^ 64
  pub wide : 17 * length v.rows ≡ table.words
  pub live : v.live ≡ true
  pub inside : 17 * row < table.words

-- the row is in hand, and nothing was stored yet
abbrev pub IsHeld : View → ℕ → Type 0
IsHeld v r = (corner v r).stage ≡ Holding (version_held (corner v r).stage) (found_in (corner v r).stage) []

-- between calls a seat is half way through nothing
abbrev pub IsCalm : Stage → Type 0
IsCalm Idle = Unit {0}
IsCalm (Reading k xs) = ⊥
IsCalm (Holding k found put) = put ≡ []
