use Rattle.pfs_tables.proofs.RowOrder.{ascending, kept, of_read_set}
use Rattle.pfs_tables.proofs.laws.rows_stand.Goals as goal

pub returns : goal.returns
returns c = record { ascending = ascending; kept = kept; of_read_set = of_read_set }
