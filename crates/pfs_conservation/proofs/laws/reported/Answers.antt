use Rattle.pfs_conservation.proofs.PrintedLaw.{reported_stats}
use Rattle.pfs_conservation.proofs.laws.reported.Goals as goal

pub returns : goal.returns
returns c = reported_stats c.merge.ensures
