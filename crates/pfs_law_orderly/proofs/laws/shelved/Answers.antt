use Rattle.pfs_law_orderly.proofs.HadVersions.{had}
use Rattle.pfs_law_orderly.proofs.laws.shelved.Goals as goal

pub returns : goal.returns
returns c = had
