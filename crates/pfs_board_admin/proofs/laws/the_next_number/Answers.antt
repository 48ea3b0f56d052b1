use Rattle.pfs_board_admin.proofs.DeskLabels.{next_number}
use Rattle.pfs_board_admin.proofs.laws.the_next_number.Goals as goal

pub returns : goal.returns
returns c = next_number
