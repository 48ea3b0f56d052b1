use Rattle.pfs_board_store.proofs.ChangeOrder.{changed}
use Rattle.pfs_board_store.proofs.laws.changed.Goals as goal

pub returns : goal.returns
returns c = changed
