use Rattle.pfs_board_store.proofs.JointCalls.{joint}
use Rattle.pfs_board_store.proofs.laws.joint.Goals as goal

pub returns : goal.returns
returns c = joint
