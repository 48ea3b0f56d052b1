use Rattle.pfs_law_session.proofs.SingleTakes.{apart}
use Rattle.pfs_law_session.proofs.actions.apart.Goals as goal

pub returns : goal.returns
returns c = apart
