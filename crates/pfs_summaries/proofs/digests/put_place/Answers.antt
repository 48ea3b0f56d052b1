use Rattle.pfs_summaries.proofs.DigestRows.{absent}
use Rattle.pfs_summaries.proofs.digests.put_place.Goals as goal

pub returns-in-None : goal.returns-in-None
returns-in-None c = absent c.args.digests.now c.args.contents.now c.args.place c.args.rows.now.items c.in-None.ensures.lookup.0
