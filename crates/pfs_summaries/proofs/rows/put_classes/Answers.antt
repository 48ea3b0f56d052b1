use Rattle.pfs_summaries.specs.ReadingSteps.{tally_in}
use Rattle.pfs_summaries.specs.Summaries.{class_rows, put_row}
use Rattle.pfs_summaries.proofs.NumberLists.{put_more}
use Rattle.pfs_summaries.proofs.rows.put_classes.Goals as goal

pub loop-id-preserved : goal.loop-id-preserved
loop-id-preserved c =
    put_more put_row (class_rows c.args.setting.now c.args.owner.kind c.args.owner.which c.args.owner.place (tally_in c.args.tallies.now c.args.owner.place) c.args.head.now)
    c.loop-id.id c.args.rows.now.entries c.loop-id.rows.entries c.put_class.new.rows.entries c.loop-id.invariant c.in-Ok.ensures
