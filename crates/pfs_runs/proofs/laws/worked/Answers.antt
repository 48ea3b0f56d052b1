use Rattle.pfs_runs.proofs.ScriptExamples.{worked}
use Rattle.pfs_runs.proofs.laws.worked.Goals as goal

pub returns : goal.returns
returns c = worked
