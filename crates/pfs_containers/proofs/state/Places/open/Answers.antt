use Rattle.std.proofs.Common.{rules, subst}
use Rattle.pfs_containers.specs.ContainerState.{AreWell}
use Rattle.pfs_containers.proofs.PlaceBounds.{opens_well}
use Rattle.pfs_containers.proofs.state.Places.open.Goals as goal

pub invariant_of-result : goal.invariant_of-result
invariant_of-result c =
    subst AreWell (search rules) (opens_well c.args.limits.now c.requires.threads c.requires.accounts c.requires.users c.requires.hosts)
