use Rattle.std.proofs.Common.{◌<◌, length, arith}
use Rattle.pfs_html.specs.Journals.{entry_html}
use Rattle.pfs_html.proofs.PlaceLists.{taken_more}
use Rattle.pfs_html.proofs.journals.put_entries.Goals as goal

pub loop-at-preserved : goal.loop-at-preserved
loop-at-preserved c =
    let within : c.loop-at.at < length c.args.entries.now = omega (arith, c.loop-at-test.true, c.count-at-end.ensures) in
    taken_more entry_html c.args.entries.now c.loop-at.at c.entry.result c.args.pen.now.page.items c.loop-at.pen.page.items c.put_entry.new.pen.page.items within c.entry.ensures c.loop-at.invariant c.in_ok-put_entry.ensures
