-- An amount that is brought to its row, with what is held for it.
use Rattle.std.specs.Prelude.{ℕ, ◌≡◌, List, [], ◌∷◌, Option, slice_set}
use Rattle.pfs_levels.specs.Calls.{Opening, Call, Adds, row_in}
use Rattle.pfs_event.specs.Logs.{Journal}
use Rattle.pfs_levels.specs.Moves.{Did}
use Rattle.pfs_levels.specs.declared.answers.Added.{Added}
use Rattle.pfs_stat.specs.declared.Stat.{Stat}
use Rattle.pfs_session.specs.SessionStates.{held_row, held_at}
use Rattle.pfs_session.specs.Ends.{with_held, still_held, added_entry}

-- one addition was tried, of the amount with what was held, and it says what became of it
pub record Brings (slot cell : ℕ) (amount : Stat) (held_old held_new : List (Option Stat)) (answer : Added)
    (old new : Journal) (was now : Opening → List Call → Type 0) : Type 0 where
  pub row_is : row_in answer ≡ held_row slot cell
  pub held_is : held_new ≡ slice_set held_old cell (still_held (with_held (held_at held_old cell) amount) answer)
  pub did : Did (Adds (held_row slot cell) (with_held (held_at held_old cell) amount) answer ∷ [])
      (added_entry answer ∷ []) old new was now
