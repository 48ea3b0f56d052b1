use Rattle.pfs_admin.proofs.ActionRows.{quit_rows}
use Rattle.pfs_admin.proofs.laws.rows_of_a_quit_ascend.Goals as goal

pub returns : goal.returns
returns c = quit_rows
