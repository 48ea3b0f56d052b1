use Rattle.pfs_law_session.proofs.Takes.{counted}
use Rattle.pfs_law_session.proofs.actions.counted.Goals as goal

pub returns : goal.returns
returns c = counted
