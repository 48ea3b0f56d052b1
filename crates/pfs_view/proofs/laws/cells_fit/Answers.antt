use Rattle.pfs_view.proofs.GridLaws.{cells_fit}
use Rattle.pfs_view.proofs.laws.cells_fit.Goals as goal

pub returns : goal.returns
returns c = cells_fit
