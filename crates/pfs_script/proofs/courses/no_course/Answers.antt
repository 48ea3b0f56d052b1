use Rattle.std.proofs.Common.{refl}
use Rattle.pfs_script.proofs.SessionCourses.{none_knows}
use Rattle.pfs_script.proofs.courses.no_course.Goals as goal

pub returns : goal.returns
returns c = none_knows _ c.no_sessions.ensures.none c.no_sessions.ensures.numbers c.nobody.ensures.none c.nobody.ensures.numbers refl refl
