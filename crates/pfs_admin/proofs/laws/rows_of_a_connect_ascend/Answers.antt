use Rattle.pfs_admin.proofs.ActionRows.{connect_rows}
use Rattle.pfs_admin.proofs.laws.rows_of_a_connect_ascend.Goals as goal

pub returns : goal.returns
returns c = connect_rows
