use Rattle.pfs_script.proofs.AppearanceOrder.{are_tables}
use Rattle.pfs_script.proofs.laws.tables.Goals as goal

pub returns : goal.returns
returns c = are_tables
