use Rattle.pfs_conservation.proofs.PrintedLaw.{reported_discarded_stats}
use Rattle.pfs_conservation.proofs.laws.reported_discarded.Goals as goal

pub returns : goal.returns
returns c = reported_discarded_stats c.merge.ensures
