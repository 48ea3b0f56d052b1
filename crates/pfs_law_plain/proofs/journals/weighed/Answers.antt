use Rattle.pfs_law_plain.proofs.Weights.{weighed}
use Rattle.pfs_law_plain.proofs.journals.weighed.Goals as goal

pub returns : goal.returns
returns c = weighed
