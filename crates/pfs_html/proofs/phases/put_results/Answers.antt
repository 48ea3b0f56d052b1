use Rattle.std.specs.Prelude.{codes}
use Rattle.pfs_html.specs.Pages.{results_html}
use Rattle.pfs_html.proofs.PlaceLists.{three_parts}
use Rattle.pfs_html.proofs.phases.put_results.Goals as goal

pub returns : goal.returns
unfolding results_html
returns c = three_parts c.put_lost.result c.args.pen.now.page.items _ _ _ (codes "<h3>All tables</h3>\n") _ _ c.in_ok-extend_from_slice.ensures.items c.in_ok-put_tables.ensures c.put_lost.ensures
