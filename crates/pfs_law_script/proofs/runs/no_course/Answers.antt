use Rattle.pfs_law_script.proofs.CourseSteps.{no_course}
use Rattle.pfs_law_script.proofs.runs.no_course.Goals as goal

pub returns : goal.returns
returns c = no_course
