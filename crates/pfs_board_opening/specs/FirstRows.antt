-- The rows of a run as they are at first.
use Rattle.std.specs.Prelude.{ℕ, ◌+◌, List, [], ◌∷◌, not}
use Rattle.std.proofs.Common.{zero, suc}
use Rattle.pfs_board.specs.declared.answers.Opening.{Opening}
use Rattle.pfs_levels.specs.JointCalls.{opens_free}
use Rattle.pfs_levels.specs.RowWords.{opening_content}

-- free or allocated, with the content that a run begins with
abbrev pub first_row : ℕ → Opening
first_row row = record { allocated = not (opens_free row); content = opening_content row }

-- so many of them from a row on
unfoldable pub rows_from : ℕ → ℕ → List Opening
rows_from zero row = []
rows_from (suc n) row = first_row row ∷ rows_from n (row + 1)

-- all of them
unfoldable pub first_rows : List Opening
first_rows = rows_from 14242 0
