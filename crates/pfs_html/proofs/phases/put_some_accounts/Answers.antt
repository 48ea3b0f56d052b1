use Rattle.std.specs.Prelude.{codes}
use Rattle.pfs_html.specs.Pages.{some_accounts_html}
use Rattle.pfs_html.proofs.PlaceLists.{two_parts}
use Rattle.pfs_html.proofs.phases.put_some_accounts.Goals as goal

pub returns : goal.returns
unfolding some_accounts_html
returns c = two_parts c.put_table.result c.args.pen.now.page.items _ _ (codes "<h3>Who was connected</h3>\n") _ c.in_ok-extend_from_slice.ensures.items c.put_table.ensures
