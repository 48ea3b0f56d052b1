use Rattle.pfs_board_store.proofs.ActorPhases.{later}
use Rattle.pfs_board_store.proofs.laws.later.Goals as goal

pub returns : goal.returns
returns c = later
