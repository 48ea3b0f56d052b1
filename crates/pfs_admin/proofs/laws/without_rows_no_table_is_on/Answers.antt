use Rattle.pfs_admin.proofs.OpeningState.{none_on}
use Rattle.pfs_admin.proofs.laws.without_rows_no_table_is_on.Goals as goal

pub returns : goal.returns
returns c = none_on
