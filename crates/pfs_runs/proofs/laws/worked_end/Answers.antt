use Rattle.pfs_runs.proofs.RunExamples.{ended}
use Rattle.pfs_runs.proofs.laws.worked_end.Goals as goal

pub returns : goal.returns
returns c = ended
