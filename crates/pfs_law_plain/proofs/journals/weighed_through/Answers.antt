use Rattle.pfs_law_plain.proofs.Weights.{weighed_through}
use Rattle.pfs_law_plain.proofs.journals.weighed_through.Goals as goal

pub returns : goal.returns
returns c = weighed_through
