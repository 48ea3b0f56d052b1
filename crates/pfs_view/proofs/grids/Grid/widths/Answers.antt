use Rattle.std.proofs.Common.{List, subst}
use Rattle.pfs_text.specs.declared.values.RowValue.{RowValue}
use Rattle.pfs_view.specs.Grids.{Widened}
use Rattle.pfs_view.proofs.WidthLists.{widths_start, widths_more, widths_end}
use Rattle.pfs_view.proofs.grids.Grid.widths.Goals as goal

pub loop-row-init : goal.loop-row-init
loop-row-init c = widths_start c.args.self.now.layout.headings c.args.self.now.layout.times c.args.self.now.rows.now c.in_ok-widths.widths.items c.in_ok-widths.ensures

pub loop-row-preserved : goal.loop-row-preserved
loop-row-preserved c =
    let headings = c.args.self.now.layout.headings in
    let times = c.args.self.now.layout.times in
    let old = c.loop-row.widths.items in
    let new = c.widen.new.widths.items in
    widths_more headings times c.args.self.now.rows.now c.loop-row.row-index c.row-item.result old new c.loop-row-test.true c.row-item.is c.loop-row.invariant
    (subst (λ (row : List RowValue). Widened headings times row old new) c.as_slice.ensures c.in_ok-widen.ensures)

pub returns : goal.returns
returns c = widths_end c.args.self.now.layout.headings c.args.self.now.layout.times c.args.self.now.rows.now c.loop-row.row-index c.loop-row.widths.items c.loop-row-test.false c.loop-row.invariant
