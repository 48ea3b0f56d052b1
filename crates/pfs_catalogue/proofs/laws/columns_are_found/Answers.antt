use Rattle.pfs_catalogue.proofs.ColumnNames.{are_found}
use Rattle.pfs_catalogue.proofs.laws.columns_are_found.Goals as goal

pub returns : goal.returns
returns c = are_found
