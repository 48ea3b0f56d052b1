use Rattle.pfs_law_session.proofs.JournalLines.{journaled}
use Rattle.pfs_law_session.proofs.journal.journaled.Goals as goal

pub returns : goal.returns
returns c = journaled
