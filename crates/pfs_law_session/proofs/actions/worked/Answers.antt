use Rattle.pfs_law_session.proofs.ActionExamples.{worked}
use Rattle.pfs_law_session.proofs.actions.worked.Goals as goal

pub returns : goal.returns
returns c = worked
