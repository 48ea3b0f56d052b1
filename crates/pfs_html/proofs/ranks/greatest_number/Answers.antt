use Rattle.std.proofs.Common.{rules}
use Rattle.pfs_view.proofs.GridLists.{wider}
use Rattle.pfs_html.specs.Rankings.{number_at}
use Rattle.pfs_html.proofs.ranks.greatest_number.Goals as goal

pub loop-row-preserved : goal.loop-row-preserved
loop-row-preserved c =
    let w = wider (number_at c.args.column) c.args.rows.now c.loop-row.row-index c.row-item.result 0 c.loop-row.most c.loop-row-test.true c.row-item.is c.loop-row.invariant in
    search rules
