use Rattle.pfs_board_root.proofs.OwnReadings.{lasts}
use Rattle.pfs_board_root.proofs.laws.last.Goals as goal

pub returns : goal.returns
returns c = lasts
