use Rattle.pfs_runs.proofs.RunExamples.{blocks}
use Rattle.pfs_runs.proofs.laws.worked_blocks.Goals as goal

pub returns : goal.returns
returns c = blocks
