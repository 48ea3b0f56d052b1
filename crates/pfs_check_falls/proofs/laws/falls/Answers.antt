use Rattle.pfs_check_falls.proofs.Predecessors.{fall_law}
use Rattle.pfs_check_falls.proofs.laws.falls.Goals as goal

pub returns : goal.returns
returns c = fall_law
