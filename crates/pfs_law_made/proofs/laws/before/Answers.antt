use Rattle.pfs_law_made.proofs.MadeChanges.{before}
use Rattle.pfs_law_made.proofs.laws.before.Goals as goal

pub returns : goal.returns
returns c = before
