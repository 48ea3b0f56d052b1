use Rattle.pfs_summaries.specs.DigestRows.{digest_row}
use Rattle.pfs_summaries.proofs.NumberLists.{appended_more}
use Rattle.pfs_summaries.proofs.digests.put_places.Goals as goal

pub loop-place-preserved : goal.loop-place-preserved
loop-place-preserved c =
    appended_more (digest_row c.args.digests.now c.args.contents.now) c.loop-place.place c.args.rows.now.items c.loop-place.rows.items c.put_place.new.rows.items c.loop-place.invariant c.in-Ok.ensures
