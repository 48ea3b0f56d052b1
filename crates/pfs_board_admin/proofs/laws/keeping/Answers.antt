use Rattle.pfs_board_admin.proofs.LabelWords.{begun, work, left}
use Rattle.pfs_board_admin.proofs.laws.keeping.Goals as goal

pub returns : goal.returns
returns c = record { begun = begun; work = work; left = left }
