use Rattle.std.proofs.Common.{rules, subst}
use Rattle.pfs_containers.specs.ContainerState.{AreCounted}
use Rattle.pfs_containers.proofs.PlaceBounds.{opens_counted}
use Rattle.pfs_containers.proofs.containers.Containers.open.Goals as goal

pub invariant_of-result : goal.invariant_of-result
invariant_of-result c = subst AreCounted (search rules) (opens_counted c.args.limits.now)
