use Rattle.pfs_law_orderly.proofs.HeldWalks.{held}
use Rattle.pfs_law_orderly.proofs.laws.held.Goals as goal

pub returns : goal.returns
returns c = held
