use Rattle.pfs_law_session.proofs.LineAmounts.{accounted}
use Rattle.pfs_law_session.proofs.journal.amounts.Goals as goal

pub returns : goal.returns
returns c = accounted c.merge.ensures
