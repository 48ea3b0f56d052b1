use Rattle.std.proofs.Common.{[]}
use Rattle.pfs_summaries.specs.ReadingSteps.{tally_in}
use Rattle.pfs_summaries.specs.Summaries.{place_rows, put_row}
use Rattle.pfs_summaries.proofs.NumberLists.{put_more}
use Rattle.pfs_summaries.proofs.rows.put_places.Goals as goal

pub loop-place-preserved : goal.loop-place-preserved
loop-place-preserved c =
    put_more put_row (place_rows c.args.setting.now c.args.kind c.args.which c.args.infos.now (tally_in c.args.tallies.now))
    c.loop-place.place [] c.loop-place.rows.entries c.put_place.new.rows.entries c.loop-place.invariant c.in-Ok.ensures
