use Rattle.pfs_admin.proofs.FoldSteps.{count_law}
use Rattle.pfs_admin.proofs.laws.actions_are_counted.Goals as goal

pub returns : goal.returns
returns c = count_law
