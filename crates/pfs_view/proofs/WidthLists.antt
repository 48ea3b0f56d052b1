-- Columns as wide as the rows so far make them.
use Rattle.std.proofs.Common.{ℕ, ◌≡◌, ◌+◌, ◌<◌, ◌≤◌, List, length, get_or, take, ap, ◌∙◌, arith}
use Rattle.std.specs.Prelude.{slice_index}
use Rattle.std.proofs.lemmas.List.{take_all}
use Rattle.pfs_text.specs.declared.values.RowValue.{RowValue}
use Rattle.pfs_view.specs.Grids.{Widened, column_total, first_of, heading_width, row_width, width_at, widths_of}
use Rattle.pfs_view.specs.declared.columns.Headings.{Headings}
use Rattle.pfs_view.specs.declared.columns.Times.{Times}
use Rattle.pfs_view.proofs.GridLaws.{first_at, first_by_each, length_first}
use Rattle.pfs_view.proofs.GridLists.{wider}

-- the columns are as wide as so many rows make them
pub record WidthsSoFar (headings : Headings) (times : Times) (rows : List (List RowValue)) (i : ℕ) (widths : List ℕ) : Type 0 where
  pub count : length widths ≡ column_total headings rows
  pub each : (place : ℕ) → place < column_total headings rows → slice_index widths place ≡ width_at headings times (take i rows) place

pub widths_start : (headings : Headings) (times : Times) (rows : List (List RowValue)) (widths : List ℕ) → widths ≡ first_of (heading_width headings) (column_total headings rows) → WidthsSoFar headings times rows 0 widths
widths_start headings times rows widths is =
    let total = column_total headings rows in
    record {
      count = ap length is ∙ length_first (heading_width headings) total;
      each = λ place h. let here : slice_index widths place ≡ heading_width headings place = ap (λ (z : List ℕ). slice_index z place) is ∙ first_at (heading_width headings) total place 0 h in omega (arith, here);
    }

pub widths_more : (headings : Headings) (times : Times) (rows : List (List RowValue)) (i : ℕ) (row : List RowValue) (old new : List ℕ) → i < length rows → row ≡ get_or rows i row → WidthsSoFar headings times rows i old → Widened headings times row old new → WidthsSoFar headings times rows (i + 1) new
widths_more headings times rows i row old new within at so more = record {
  count = more.count ∙ so.count;
  each = λ place h. more.each place (omega (arith, h, so.count)) ∙ wider (row_width headings times place) rows i row (heading_width headings place) (slice_index old place) within at (so.each place h);
}

pub widths_end : (headings : Headings) (times : Times) (rows : List (List RowValue)) (i : ℕ) (widths : List ℕ) → length rows ≤ i → WidthsSoFar headings times rows i widths → widths ≡ widths_of headings times rows
widths_end headings times rows i widths past so =
    first_by_each (width_at headings times rows) (column_total headings rows) widths so.count
    (λ place h. so.each place h ∙ ap (λ (some : List (List RowValue)). width_at headings times some place) (take_all i rows past))
