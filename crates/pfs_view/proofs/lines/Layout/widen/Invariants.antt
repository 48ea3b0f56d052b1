use Rattle.pfs_view.proofs.WidenSteps.{WidenedTo}
use Rattle.pfs_view.proofs.lines.Layout.widen.Given as goal

abbrev pub invariant-loop-place : goal.invariant-loop-place
invariant-loop-place l = WidenedTo l.self.headings l.self.times l.row l.place l.initial.widths.items l.widths.items
