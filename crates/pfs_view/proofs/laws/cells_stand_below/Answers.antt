use Rattle.pfs_view.proofs.GridLaws.{cells_below}
use Rattle.pfs_view.proofs.laws.cells_stand_below.Goals as goal

pub returns : goal.returns
returns c = cells_below
