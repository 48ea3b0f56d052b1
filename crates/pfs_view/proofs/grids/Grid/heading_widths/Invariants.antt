use Rattle.std.proofs.Common.{◌≡◌}
use Rattle.pfs_view.specs.Grids.{first_of, heading_width}
use Rattle.pfs_view.proofs.grids.Grid.heading_widths.Given as goal

abbrev pub invariant-loop-place : goal.invariant-loop-place
invariant-loop-place l = l.widths.items ≡ first_of (heading_width l.self.layout.headings) l.place
