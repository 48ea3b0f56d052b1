use Rattle.pfs_setups.proofs.ColumnFits.{all_fit}
use Rattle.pfs_setups.proofs.held_tables.rows_fit.Goals as goal

pub returns : goal.returns
returns c = all_fit
