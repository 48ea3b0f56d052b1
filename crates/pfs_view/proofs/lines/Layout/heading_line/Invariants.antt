use Rattle.std.proofs.Common.{ℕ, ◌≡◌, false}
use Rattle.std.specs.Prelude.{slice_index}
use Rattle.pfs_view.specs.ColumnHeadings.{heading_text}
use Rattle.pfs_view.specs.Grids.{bars, padded}
use Rattle.pfs_view.proofs.lines.Layout.heading_line.Given as goal

abbrev pub invariant-loop-place : goal.invariant-loop-place
invariant-loop-place l = l.buffers.line.items ≡ bars (λ (place : ℕ). padded false (slice_index l.widths place) (heading_text l.self.headings place)) l.place
