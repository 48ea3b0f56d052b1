use Rattle.pfs_law_session.proofs.RunContents.{contents}
use Rattle.pfs_law_session.proofs.actions.contents.Goals as goal

pub returns : goal.returns
returns c = contents
