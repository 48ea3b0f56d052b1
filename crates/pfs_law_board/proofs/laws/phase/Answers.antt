use Rattle.pfs_law_board.proofs.SharedPhases.{one_shares}
use Rattle.pfs_law_board.proofs.laws.phase.Goals as goal

pub returns : goal.returns
returns c = one_shares c.joint.ensures c.ordered.ensures c.later.ensures c.shared.ensures
