use Rattle.pfs_board_admin.proofs.SharedSets.{shared}
use Rattle.pfs_board_admin.proofs.laws.shared.Goals as goal

pub returns : goal.returns
returns c = shared
