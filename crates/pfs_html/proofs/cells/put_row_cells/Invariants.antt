use Rattle.std.proofs.Common.{◌≡◌, ◌++◌}
use Rattle.std.specs.List.{flat_map}
use Rattle.pfs_html.specs.Cells.{cell_html, places_below}
use Rattle.pfs_html.proofs.cells.put_row_cells.Given as goal

abbrev pub invariant-loop-place : goal.invariant-loop-place
invariant-loop-place l = l.pen.page.items ≡ l.initial.pen.page.items ++ flat_map (cell_html l.headings l.row) (places_below l.place)
