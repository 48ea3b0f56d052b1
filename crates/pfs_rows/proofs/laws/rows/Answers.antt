use Rattle.pfs_rows.proofs.RowPlaces.{found}
use Rattle.pfs_rows.proofs.laws.rows.Goals as goal

pub returns-clause-found : goal.returns-clause-found
returns-clause-found c = found
