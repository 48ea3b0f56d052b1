use Rattle.pfs_law_session.proofs.StoreContents.{contents}
use Rattle.pfs_law_session.proofs.journal.contents.Goals as goal

pub returns : goal.returns
returns c = contents
