use Rattle.pfs_board_phase.proofs.PhaseSteps.{begins_so}
use Rattle.pfs_board_phase.proofs.laws.begins.Goals as goal

pub returns : goal.returns
returns c = begins_so c.playable.ensures c.few.ensures c.named.ensures c.actions.ensures
