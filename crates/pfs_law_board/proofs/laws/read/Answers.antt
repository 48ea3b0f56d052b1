use Rattle.pfs_law_board.proofs.EndReadings.{reads}
use Rattle.pfs_law_board.proofs.laws.read.Goals as goal

pub returns : goal.returns
returns c = reads c.joint.ensures c.ordered.ensures c.later.ensures c.shared.ensures
