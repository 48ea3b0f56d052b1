use Rattle.std.proofs.Common.{rules, subst}
use Rattle.pfs_containers.specs.ContainerState.{AreCounted}
use Rattle.pfs_containers.proofs.PlaceBounds.{quit_counts}
use Rattle.pfs_containers.proofs.containers.Containers.quit.Goals as goal

pub invariant_of-self : goal.invariant_of-self
invariant_of-self c = subst AreCounted (search rules) (quit_counts _ c.args.number c.self.invariant)
