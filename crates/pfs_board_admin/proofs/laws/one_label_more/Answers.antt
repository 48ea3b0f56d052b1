use Rattle.pfs_board_admin.proofs.DeskLabels.{one_more}
use Rattle.pfs_board_admin.proofs.laws.one_label_more.Goals as goal

pub returns : goal.returns
returns c = one_more
