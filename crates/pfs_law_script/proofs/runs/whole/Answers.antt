use Rattle.pfs_law_script.proofs.WholeCourse.{whole}
use Rattle.pfs_law_script.proofs.runs.whole.Goals as goal

pub returns : goal.returns
returns c = whole c.answered.ensures c.ruled.ensures c.facts.ensures
