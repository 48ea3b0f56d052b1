use Rattle.pfs_board_store.proofs.RootActors.{gathers}
use Rattle.pfs_board_store.proofs.laws.gathered.Goals as goal

pub returns : goal.returns
returns c = gathers
