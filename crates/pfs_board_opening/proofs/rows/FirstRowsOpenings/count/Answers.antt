use Rattle.std.proofs.Common.{sym}
use Rattle.pfs_board_opening.proofs.FirstRows.{first_long}
use Rattle.pfs_board_opening.proofs.rows.FirstRowsOpenings.count.Goals as goal

pub returns : goal.returns
returns c = sym first_long
