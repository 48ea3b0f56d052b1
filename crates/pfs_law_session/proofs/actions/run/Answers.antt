use Rattle.pfs_law_session.proofs.RunContents.{run}
use Rattle.pfs_law_session.proofs.actions.run.Goals as goal

pub returns : goal.returns
returns c = run
