use Rattle.pfs_rows.proofs.TableNames.{names_differ}
use Rattle.pfs_rows.proofs.laws.table_names_differ.Goals as goal

pub returns : goal.returns
returns c = names_differ
