use Rattle.pfs_board_admin.proofs.DeskLabels.{not_spent}
use Rattle.pfs_board_admin.proofs.laws.never_spent.Goals as goal

pub returns : goal.returns
returns c = not_spent
