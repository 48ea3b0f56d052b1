use Rattle.pfs_law_orderly.proofs.OrderlyLaws.{orderly}
use Rattle.pfs_law_orderly.proofs.laws.orderly.Goals as goal

pub returns : goal.returns
returns c = orderly c.earlier.ensures.rises c.earlier.ensures.below
