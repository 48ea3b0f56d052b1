use Rattle.pfs_law_load.proofs.LoadExamples.{worked_load}
use Rattle.pfs_law_load.proofs.laws.worked.Goals as goal

pub returns : goal.returns
returns c = worked_load
