use Rattle.pfs_law_made.proofs.MadeChanges.{finds}
use Rattle.pfs_law_made.proofs.laws.finds.Goals as goal

pub returns : goal.returns
returns c = finds
