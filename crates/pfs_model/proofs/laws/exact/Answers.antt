use Rattle.pfs_model.proofs.ClosedShapes.{exact}
use Rattle.pfs_model.proofs.laws.exact.Goals as goal

pub returns : goal.returns
returns c = exact
