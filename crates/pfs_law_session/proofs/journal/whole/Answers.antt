use Rattle.pfs_law_session.proofs.SessionPhases.{whole}
use Rattle.pfs_law_session.proofs.journal.whole.Goals as goal

pub returns : goal.returns
returns c = whole c.merge.ensures
