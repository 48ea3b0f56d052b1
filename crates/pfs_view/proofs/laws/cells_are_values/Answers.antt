use Rattle.pfs_view.proofs.GridLaws.{cells_are_values}
use Rattle.pfs_view.proofs.laws.cells_are_values.Goals as goal

pub returns : goal.returns
returns c = cells_are_values
