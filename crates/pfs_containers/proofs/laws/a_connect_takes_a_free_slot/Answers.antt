use Rattle.pfs_containers.proofs.SlotOwners.{connect_law}
use Rattle.pfs_containers.proofs.laws.a_connect_takes_a_free_slot.Goals as goal

pub returns : goal.returns
returns c = connect_law
