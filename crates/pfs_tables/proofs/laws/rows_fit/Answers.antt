use Rattle.pfs_tables.proofs.Fits.{count, kinds}
use Rattle.pfs_tables.proofs.laws.rows_fit.Goals as goal

pub returns : goal.returns
returns c = record { count = count; kinds = kinds }
