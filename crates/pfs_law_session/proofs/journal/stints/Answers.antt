use Rattle.pfs_law_session.proofs.Stints.{done}
use Rattle.pfs_law_session.proofs.journal.stints.Goals as goal

pub returns : goal.returns
returns c = done
