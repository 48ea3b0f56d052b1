use Rattle.std.proofs.Common.{◌≡◌, max, List, length, take}
use Rattle.pfs_text.specs.declared.values.RowValue.{RowValue}
use Rattle.pfs_view.specs.ColumnHeadings.{heading_count}
use Rattle.pfs_view.specs.Grids.{greatest}
use Rattle.pfs_view.proofs.grids.Grid.columns.Given as goal

abbrev pub invariant-loop-row : goal.invariant-loop-row
invariant-loop-row l = l.columns ≡ max (heading_count l.self.layout.headings) (greatest (λ (row : List RowValue). length row) (take l.row-index l.self.rows.now))
