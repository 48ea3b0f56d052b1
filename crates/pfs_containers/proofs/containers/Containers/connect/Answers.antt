use Rattle.pfs_containers.proofs.PlaceBounds.{lost_counts}
use Rattle.pfs_containers.proofs.containers.Containers.connect.Goals as goal

pub invariant_of-self : goal.invariant_of-self
invariant_of-self c = lost_counts _ c.self.invariant
