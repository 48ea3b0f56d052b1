use Rattle.pfs_admin.proofs.FoldSteps.{step_law}
use Rattle.pfs_admin.proofs.laws.one_label_more.Goals as goal

pub returns : goal.returns
returns c = step_law
