use Rattle.pfs_law_session.proofs.PartActions.{done}
use Rattle.pfs_law_session.proofs.actions.done.Goals as goal

pub returns : goal.returns
returns c = done
