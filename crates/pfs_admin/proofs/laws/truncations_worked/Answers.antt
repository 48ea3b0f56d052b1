use Rattle.pfs_admin.proofs.TruncationExamples.{worked}
use Rattle.pfs_admin.proofs.laws.truncations_worked.Goals as goal

pub returns : goal.returns
returns c = worked
