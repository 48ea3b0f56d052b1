use Rattle.pfs_law_session.proofs.JournalLines.{written}
use Rattle.pfs_law_session.proofs.journal.written.Goals as goal

pub returns : goal.returns
returns c = written
