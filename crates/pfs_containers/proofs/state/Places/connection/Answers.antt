use Rattle.std.proofs.Common.{rules, subst}
use Rattle.pfs_containers.specs.ContainerState.{AreWell, IsSeated}
use Rattle.pfs_containers.proofs.PlaceBounds.{session_has, seat_in_range}
use Rattle.pfs_containers.proofs.state.Places.connection.Goals as goal

pub returns-clause-places : goal.returns-clause-places
returns-clause-places c =
    subst (IsSeated c.args.self.now) (search rules)
    (session_has c.args.self.now (subst AreWell (search rules) c.self.invariant) c.args.number c.args.user c.args.host)

pub returns-clause-few : goal.returns-clause-few
returns-clause-few c = seat_in_range c.args.self.now _ (subst AreWell (search rules) c.self.invariant) (returns-clause-places c)
