use Rattle.pfs_law_conservation.proofs.TruncationExamples.{worked}
use Rattle.pfs_law_conservation.proofs.truncations.worked.Goals as goal

pub returns : goal.returns
returns c = worked
