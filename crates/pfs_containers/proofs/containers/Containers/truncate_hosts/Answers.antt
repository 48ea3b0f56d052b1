use Rattle.std.proofs.Common.{rules, subst}
use Rattle.pfs_containers.specs.Administration.{Hosts}
use Rattle.pfs_containers.specs.ContainerState.{AreCounted}
use Rattle.pfs_containers.proofs.TruncationBounds.{truncation_counts}
use Rattle.pfs_containers.proofs.containers.Containers.truncate_hosts.Goals as goal

pub invariant_of-self : goal.invariant_of-self
invariant_of-self c = subst AreCounted (search rules) (truncation_counts _ Hosts c.self.invariant)
