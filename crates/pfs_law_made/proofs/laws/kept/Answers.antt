use Rattle.pfs_law_made.proofs.MadeChanges.{kept}
use Rattle.pfs_law_made.proofs.laws.kept.Goals as goal

pub returns : goal.returns
returns c = kept
