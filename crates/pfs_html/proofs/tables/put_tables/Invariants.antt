use Rattle.std.proofs.Common.{◌≡◌, ◌++◌, take}
use Rattle.std.specs.List.{flat_map}
use Rattle.pfs_html.specs.Tables.{named_html}
use Rattle.pfs_html.proofs.tables.put_tables.Given as goal

abbrev pub invariant-loop-table : goal.invariant-loop-table
invariant-loop-table l = l.pen.page.items ≡ l.initial.pen.page.items ++ flat_map named_html (take l.table-index l.tables)
