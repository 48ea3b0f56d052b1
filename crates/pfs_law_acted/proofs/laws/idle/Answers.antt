use Rattle.pfs_law_acted.proofs.ActedParts.{idle}
use Rattle.pfs_law_acted.proofs.laws.idle.Goals as goal

pub returns : goal.returns
returns c = idle
