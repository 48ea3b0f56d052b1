use Rattle.pfs_html.specs.Cells.{cell_html}
use Rattle.pfs_html.proofs.PlaceLists.{appended_more}
use Rattle.pfs_html.proofs.cells.put_row_cells.Goals as goal

pub loop-place-preserved : goal.loop-place-preserved
loop-place-preserved c = appended_more (cell_html c.args.headings c.args.row.now) c.loop-place.place c.args.pen.now.page.items c.loop-place.pen.page.items c.put_cell.new.pen.page.items c.loop-place.invariant c.in_ok-put_cell.ensures
