use Rattle.pfs_admin.proofs.FoldSteps.{fixed_law}
use Rattle.pfs_admin.proofs.laws.names_and_cells_stay.Goals as goal

pub returns : goal.returns
returns c = fixed_law
