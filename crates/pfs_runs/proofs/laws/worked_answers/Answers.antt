use Rattle.pfs_runs.proofs.SelectExamples.{answered}
use Rattle.pfs_runs.proofs.laws.worked_answers.Goals as goal

pub returns : goal.returns
returns c = answered
