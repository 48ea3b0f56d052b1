use Rattle.pfs_law_shared.proofs.ApartCalls.{all_apart}
use Rattle.pfs_law_shared.proofs.laws.apart.Goals as goal

pub returns : goal.returns
returns c = all_apart
