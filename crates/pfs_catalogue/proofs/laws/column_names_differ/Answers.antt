use Rattle.pfs_catalogue.proofs.ColumnNames.{names_differ}
use Rattle.pfs_catalogue.proofs.laws.column_names_differ.Goals as goal

pub returns : goal.returns
returns c = names_differ
