use Rattle.pfs_law_acted.proofs.ActedParts.{acted}
use Rattle.pfs_law_acted.proofs.laws.acted.Goals as goal

pub returns : goal.returns
returns c = acted
