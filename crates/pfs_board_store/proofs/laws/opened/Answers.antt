use Rattle.pfs_board_store.proofs.Openings.{opened}
use Rattle.pfs_board_store.proofs.laws.opened.Goals as goal

pub returns : goal.returns
returns c = opened
