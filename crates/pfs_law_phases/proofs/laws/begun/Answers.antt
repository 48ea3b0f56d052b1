use Rattle.pfs_law_phases.proofs.NextPhase.{begun}
use Rattle.pfs_law_phases.proofs.laws.begun.Goals as goal

pub returns : goal.returns
returns c = begun c.no_course.ensures c.phases.ensures.none
