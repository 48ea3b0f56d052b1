use Rattle.pfs_law_discarded.proofs.DiscardedSums.{discarded_law}
use Rattle.pfs_law_discarded.proofs.laws.discarded.Goals as goal

pub returns : goal.returns
returns c =
    discarded_law c.kept.ensures c.orderly.ensures c.in_range.ensures c.few.ensures c.agreed.ensures c.summed.ensures c.discarded.ensures c.cleared.ensures
