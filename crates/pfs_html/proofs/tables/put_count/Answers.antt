use Rattle.std.specs.Prelude.{codes}
use Rattle.pfs_html.specs.Tables.{count_html}
use Rattle.pfs_html.proofs.PlaceLists.{three_appended}
use Rattle.pfs_html.proofs.tables.put_count.Goals as goal

pub returns : goal.returns
unfolding count_html
returns c = three_appended c.extend_from_slice-2.result c.args.out.now.items _ _ _ (codes "<i>") _ (codes "</i></summary>\n") c.in_ok-extend_from_slice.ensures.items c.in_ok-put_u64.ensures.ok c.extend_from_slice-2.ensures.items
