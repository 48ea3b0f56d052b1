use Rattle.pfs_containers.proofs.SlotOwners.{quit_law}
use Rattle.pfs_containers.proofs.laws.a_quit_frees_its_own_slot.Goals as goal

pub returns : goal.returns
returns c = quit_law
