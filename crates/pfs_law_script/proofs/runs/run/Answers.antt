use Rattle.pfs_law_script.proofs.WholeCourse.{run_of}
use Rattle.pfs_law_script.proofs.runs.run.Goals as goal

pub returns : goal.returns
returns c = run_of
