use Rattle.pfs_conservation.proofs.Conservation.{discarded_stats}
use Rattle.pfs_conservation.proofs.laws.discarded.Goals as goal

pub returns : goal.returns
returns c = discarded_stats c.merge.ensures
