use Rattle.pfs_board_store.proofs.RootActors.{meets}
use Rattle.pfs_board_store.proofs.laws.met.Goals as goal

pub returns : goal.returns
returns c = meets
