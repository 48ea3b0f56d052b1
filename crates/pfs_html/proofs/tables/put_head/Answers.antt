use Rattle.std.specs.Prelude.{codes}
use Rattle.pfs_html.specs.Tables.{head_html}
use Rattle.pfs_html.proofs.PlaceLists.{three_appended}
use Rattle.pfs_html.proofs.tables.put_head.Goals as goal

pub returns : goal.returns
unfolding head_html
returns c = three_appended c.extend_from_slice-2.result c.args.pen.now.page.items _ _ _ (codes "<div><table>\n<tr>") _ (codes "</tr>\n") c.in_ok-extend_from_slice.ensures.items c.in_ok-put_headings.ensures c.extend_from_slice-2.ensures.items
