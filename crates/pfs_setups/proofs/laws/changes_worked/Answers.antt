use Rattle.pfs_setups.proofs.ChangeExamples.{worked}
use Rattle.pfs_setups.proofs.laws.changes_worked.Goals as goal

pub returns : goal.returns
returns c = worked
