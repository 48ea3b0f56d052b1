use Rattle.pfs_law_session.proofs.Orders.{whole}
use Rattle.pfs_law_session.proofs.actions.whole.Goals as goal

pub returns : goal.returns
returns c = whole
