use Rattle.std.proofs.Common.{ℕ, ◌≡◌}
use Rattle.std.specs.Prelude.{slice_index}
use Rattle.pfs_view.specs.Grids.{bars, cell_text, is_right, padded}
use Rattle.pfs_view.proofs.lines.Layout.row_line.Given as goal

abbrev pub invariant-loop-place : goal.invariant-loop-place
invariant-loop-place l = l.buffers.line.items ≡ bars (λ (place : ℕ). padded (is_right l.values place) (slice_index l.widths place) (cell_text l.self.headings l.self.times l.values place)) l.place
