use Rattle.pfs_law_joint.proofs.Floors.{floors_kept}
use Rattle.pfs_law_joint.proofs.laws.floored.Goals as goal

pub returns : goal.returns
returns c = floors_kept
