use Rattle.std.proofs.Common.{[]}
use Rattle.pfs_html.specs.Rankings.{with_rank}
use Rattle.pfs_html.proofs.PlaceLists.{put_more}
use Rattle.pfs_html.proofs.ranks.places_by_time.Goals as goal

pub loop-place-preserved : goal.loop-place-preserved
loop-place-preserved c = put_more (with_rank c.args.column c.args.rows.now) [] c.loop-place.place c.loop-place.ranks.entries c.put_rank.new.ranks.entries c.loop-place.invariant c.in_ok-put_rank.ensures
