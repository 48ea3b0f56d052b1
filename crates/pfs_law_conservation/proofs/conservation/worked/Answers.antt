use Rattle.pfs_law_conservation.proofs.ConservationExamples.{worked}
use Rattle.pfs_law_conservation.proofs.conservation.worked.Goals as goal

pub returns : goal.returns
returns c = worked
