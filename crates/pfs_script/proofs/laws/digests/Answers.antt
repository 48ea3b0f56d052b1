use Rattle.pfs_script.proofs.AppearanceOrder.{are_digests}
use Rattle.pfs_script.proofs.laws.digests.Goals as goal

pub returns : goal.returns
returns c = are_digests
