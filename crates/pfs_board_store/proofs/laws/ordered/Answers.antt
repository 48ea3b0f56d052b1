use Rattle.pfs_board_store.proofs.CallOrder.{ordered}
use Rattle.pfs_board_store.proofs.laws.ordered.Goals as goal

pub returns : goal.returns
returns c = ordered
