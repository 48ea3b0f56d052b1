use Rattle.pfs_view.proofs.WidthLists.{WidthsSoFar}
use Rattle.pfs_view.proofs.grids.Grid.widths.Given as goal

abbrev pub invariant-loop-row : goal.invariant-loop-row
invariant-loop-row l = WidthsSoFar l.self.layout.headings l.self.layout.times l.self.rows.now l.row-index l.widths.items
