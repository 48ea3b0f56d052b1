use Rattle.pfs_law_script.proofs.WholeCourse.{facts_are}
use Rattle.pfs_law_script.proofs.runs.facts.Goals as goal

pub returns : goal.returns
returns c = facts_are c.session.ensures
