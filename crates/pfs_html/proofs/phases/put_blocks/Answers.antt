use Rattle.std.specs.Prelude.{codes}
use Rattle.pfs_html.specs.Pages.{blocks_html}
use Rattle.pfs_html.proofs.PlaceLists.{three_appended}
use Rattle.pfs_html.proofs.phases.put_blocks.Goals as goal

pub returns : goal.returns
unfolding blocks_html
returns c = three_appended c.extend_from_slice-2.result c.args.pen.now.page.items _ _ _ (codes "<h3>Journals</h3>\n") _ (codes "</section>\n") c.in_ok-extend_from_slice.ensures.items c.in_ok-put_journals.ensures c.extend_from_slice-2.ensures.items
