use Rattle.pfs_conservation.proofs.Conservation.{conserved_stats}
use Rattle.pfs_conservation.proofs.laws.conserved.Goals as goal

pub returns : goal.returns
returns c = conserved_stats c.merge.ensures
