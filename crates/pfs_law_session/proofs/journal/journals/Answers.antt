use Rattle.pfs_law_session.proofs.Journals.{journals}
use Rattle.pfs_law_session.proofs.journal.journals.Goals as goal

pub returns : goal.returns
returns c = journals
