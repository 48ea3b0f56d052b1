use Rattle.pfs_board_root.proofs.LaterActors.{begins}
use Rattle.pfs_board_root.proofs.laws.began.Goals as goal

pub returns : goal.returns
returns c = begins
