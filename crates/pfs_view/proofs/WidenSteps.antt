-- Columns made wider by a row, place by place.
use Rattle.std.proofs.Common.{ℕ, ◌≡◌, ◌<◌, ◌≤◌, max, List, length}
use Rattle.std.specs.Prelude.{slice_index}
use Rattle.pfs_text.specs.declared.values.RowValue.{RowValue}
use Rattle.pfs_view.specs.Grids.{row_width}
use Rattle.pfs_view.specs.declared.columns.Headings.{Headings}
use Rattle.pfs_view.specs.declared.columns.Times.{Times}

-- so are those before a place, and the others are as before
pub record WidenedTo (headings : Headings) (times : Times) (row : List RowValue) (i : ℕ) (old new : List ℕ) : Type 0 where
  pub count : length new ≡ length old
  pub before : (place : ℕ) → place < i → slice_index new place ≡ max (slice_index old place) (row_width headings times place row)
  pub behind : (place : ℕ) → i ≤ place → slice_index new place ≡ slice_index old place
