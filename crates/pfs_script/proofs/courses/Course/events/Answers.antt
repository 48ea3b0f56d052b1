use Rattle.pfs_script.proofs.SessionCourses.{open_is}
use Rattle.pfs_script.proofs.courses.Course.events.Goals as goal

pub returns : goal.returns
returns c before knows = rw (c.state.ensures knows.low) (open_is c.args.self.now before knows)
