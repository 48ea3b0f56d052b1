use Rattle.pfs_law_session.proofs.RunContents.{lines}
use Rattle.pfs_law_session.proofs.actions.lines.Goals as goal

pub returns : goal.returns
returns c = lines
