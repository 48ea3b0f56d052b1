use Rattle.pfs_law_session.proofs.LineAmounts.{sums}
use Rattle.pfs_law_session.proofs.journal.sums.Goals as goal

pub returns : goal.returns
returns c = sums
