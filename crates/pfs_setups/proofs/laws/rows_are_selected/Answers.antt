use Rattle.pfs_setups.proofs.SelectedRows.{are_selected}
use Rattle.pfs_setups.proofs.laws.rows_are_selected.Goals as goal

pub returns : goal.returns
returns c = are_selected
