use Rattle.pfs_law_script.proofs.CourseSteps.{one_more}
use Rattle.pfs_law_script.proofs.runs.one_more.Goals as goal

pub returns : goal.returns
returns c = one_more
