use Rattle.std.proofs.Common.{rules, subst}
use Rattle.pfs_containers.specs.ContainerState.{AreCounted, as_found}
use Rattle.pfs_containers.proofs.FilledPlaces.{up_to_wider}
use Rattle.pfs_containers.proofs.PlaceBounds.{seat_counts, counted_places}
use Rattle.pfs_containers.proofs.containers.Containers.seat.Goals as goal

pub add-requires-clause-accounts : goal.add-requires-clause-accounts
add-requires-clause-accounts c = up_to_wider c.self.inside.connects _ _ (search rules) c.self.invariant.account_totals

pub add-requires-clause-users : goal.add-requires-clause-users
add-requires-clause-users c = up_to_wider c.self.inside.connects _ _ (search rules) c.self.invariant.user_totals

pub add-requires-clause-hosts : goal.add-requires-clause-hosts
add-requires-clause-hosts c = up_to_wider c.self.inside.connects _ _ (search rules) c.self.invariant.host_totals

pub invariant_of-self : goal.invariant_of-self
invariant_of-self c =
    subst AreCounted (search rules)
    (seat_counts c.args.self.now c.args.slot c.connection-connection.result (as_found c.account-account.result) c.requires.free
    (search (rules, counted_places))
    (subst AreCounted (search rules) c.self.invariant))
