use Rattle.pfs_law_joint.proofs.LaterActions.{later}
use Rattle.pfs_law_joint.proofs.laws.later.Goals as goal

pub returns : goal.returns
returns c = later
