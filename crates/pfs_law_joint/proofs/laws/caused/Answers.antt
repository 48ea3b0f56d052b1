use Rattle.pfs_law_joint.proofs.Causes.{causes}
use Rattle.pfs_law_joint.proofs.laws.caused.Goals as goal

pub returns : goal.returns
returns c = causes c.others.ensures
