use Rattle.std.proofs.Common.{ℕ, false}
use Rattle.std.specs.Prelude.{slice_index}
use Rattle.pfs_view.specs.ColumnHeadings.{heading_text}
use Rattle.pfs_view.specs.Grids.{padded}
use Rattle.pfs_view.proofs.GridLists.{bars_more}
use Rattle.pfs_view.proofs.lines.Layout.heading_line.Goals as goal

pub loop-place-preserved : goal.loop-place-preserved
loop-place-preserved c = bars_more (λ (place : ℕ). padded false (slice_index c.args.widths.now place) (heading_text c.args.self.headings place)) c.loop-place.place c.loop-place.buffers.line.items c.put_heading_bar.new.buffers.line.items c.loop-place.invariant c.in_ok-put_heading_bar.ensures
