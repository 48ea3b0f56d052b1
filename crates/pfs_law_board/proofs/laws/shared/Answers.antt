use Rattle.pfs_law_board.proofs.SharedPhases.{shares}
use Rattle.pfs_law_board.proofs.laws.shared.Goals as goal

pub returns : goal.returns
returns c = shares c.joint.ensures c.ordered.ensures c.later.ensures c.shared.ensures
