use Rattle.std.specs.Prelude.{codes}
use Rattle.pfs_html.specs.Rankings.{full_html}
use Rattle.pfs_html.proofs.PlaceLists.{three_appended}
use Rattle.pfs_html.proofs.rankings.put_full.Goals as goal

pub returns : goal.returns
unfolding full_html
returns c = three_appended c.extend_from_slice-2.result c.args.out.now.items _ _ _ (codes "<td><meter max=\"") _ (codes "\" value=\"") c.in_ok-extend_from_slice.ensures.items c.in_ok-put_u64.ensures.ok c.extend_from_slice-2.ensures.items
