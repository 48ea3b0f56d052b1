use Rattle.std.proofs.Common.{◌≡◌}
use Rattle.pfs_view.specs.Grids.{dashes}
use Rattle.pfs_view.proofs.lines.border_line.Given as goal

abbrev pub invariant-loop-place : goal.invariant-loop-place
invariant-loop-place l = l.line.items ≡ dashes l.widths l.place
