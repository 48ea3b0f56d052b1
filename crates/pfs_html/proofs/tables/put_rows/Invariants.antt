use Rattle.std.proofs.Common.{◌≡◌, ◌++◌, take}
use Rattle.std.specs.List.{flat_map}
use Rattle.pfs_html.specs.Cells.{row_html}
use Rattle.pfs_html.proofs.tables.put_rows.Given as goal

abbrev pub invariant-loop-row : goal.invariant-loop-row
invariant-loop-row l = l.pen.page.items ≡ l.initial.pen.page.items ++ flat_map (row_html l.headings) (take l.row-index l.rows)
