use Rattle.pfs_law_shared.proofs.ApartCalls.{all_near}
use Rattle.pfs_law_shared.proofs.laws.nearby.Goals as goal

pub returns : goal.returns
returns c = all_near
