use Rattle.std.proofs.Common.{rules}
use Rattle.pfs_containers.specs.Connections.{in_use, kept_from}
use Rattle.pfs_containers.proofs.FilledPlaces.{whole_is}
use Rattle.pfs_containers.proofs.ConnectionTotals.{len_kept}
use Rattle.pfs_containers.proofs.TruncationBounds.{accounts_freed}
use Rattle.pfs_containers.proofs.state.Places.free_accounts.Goals as goal

pub invariant_of-self : goal.invariant_of-self
invariant_of-self c =
    accounts_freed _ _ _
    (whole_is c.self.inside.accounts.len c.free_unused.new.places c.self.inside.accounts.items
    (kept_from 0 (in_use (λ x. x.account) c.self.inside.threads.items) c.self.inside.accounts.items) (search rules) (search (rules, len_kept)))
    c.self.invariant
