use Rattle.std.proofs.Common.{rules}
use Rattle.pfs_containers.specs.Connections.{in_use, kept_from}
use Rattle.pfs_containers.proofs.FilledPlaces.{whole_is}
use Rattle.pfs_containers.proofs.ConnectionTotals.{len_kept}
use Rattle.pfs_containers.proofs.TruncationBounds.{users_freed}
use Rattle.pfs_containers.proofs.state.Places.free_users.Goals as goal

pub invariant_of-self : goal.invariant_of-self
invariant_of-self c =
    users_freed _ _ _
    (whole_is c.self.inside.users.len c.free_unused.new.places c.self.inside.users.items
    (kept_from 0 (in_use (λ x. x.user) c.self.inside.threads.items) c.self.inside.users.items) (search rules) (search (rules, len_kept)))
    c.self.invariant
