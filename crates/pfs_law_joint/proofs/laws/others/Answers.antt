use Rattle.pfs_law_joint.proofs.Causes.{others}
use Rattle.pfs_law_joint.proofs.laws.others.Goals as goal

pub returns : goal.returns
returns c = others
