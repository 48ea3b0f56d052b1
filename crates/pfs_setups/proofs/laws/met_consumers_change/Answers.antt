use Rattle.pfs_setups.proofs.Consumers.{sets_consumers}
use Rattle.pfs_setups.proofs.laws.met_consumers_change.Goals as goal

pub returns : goal.returns
returns c = sets_consumers
