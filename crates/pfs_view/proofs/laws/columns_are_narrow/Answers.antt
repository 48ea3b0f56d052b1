use Rattle.pfs_view.proofs.GridLaws.{columns_narrow}
use Rattle.pfs_view.proofs.laws.columns_are_narrow.Goals as goal

pub returns : goal.returns
returns c = columns_narrow
