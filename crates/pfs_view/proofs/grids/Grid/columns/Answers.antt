use Rattle.std.proofs.Common.{List, length, rules}
use Rattle.pfs_text.specs.declared.values.RowValue.{RowValue}
use Rattle.pfs_view.specs.ColumnHeadings.{heading_count}
use Rattle.pfs_view.proofs.GridLists.{wider}
use Rattle.pfs_view.proofs.grids.Grid.columns.Goals as goal

pub loop-row-preserved : goal.loop-row-preserved
loop-row-preserved c =
    let w = wider (λ (row : List RowValue). length row) c.args.self.now.rows.now c.loop-row.row-index c.row-item.result (heading_count c.args.self.now.layout.headings) c.loop-row.columns c.loop-row-test.true c.row-item.is c.loop-row.invariant in
    search rules
