use Rattle.pfs_law_shared.proofs.SharedEnds.{ends_kept}
use Rattle.pfs_law_shared.proofs.laws.ends.Goals as goal

pub returns : goal.returns
returns c =
    ends_kept c.never_fall.ensures.rows c.never_fall.ensures.words c.chained.ensures.rows c.chained.ensures.marks c.chained.ensures.flags c.same.ensures c.agreed.ensures c.told.ensures c.weighed.ensures
