use Rattle.std.proofs.Common.{rules, subst}
use Rattle.pfs_containers.specs.Connections.{entry_of, fill, fill_at}
use Rattle.pfs_containers.specs.ContainerState.{AreWell}
use Rattle.pfs_containers.proofs.FilledPlaces.{whole_is}
use Rattle.pfs_containers.proofs.PlaceBounds.{seat_keeps_all, len_fill, len_fill_at}
use Rattle.pfs_containers.proofs.state.Places.seat.Goals as goal

pub invariant_of-self : goal.invariant_of-self
invariant_of-self c =
    let s = c.args.self.now in
    let x = c.args.connection.now in
    seat_keeps_all s c.args.slot x _ _ _ _
    (whole_is c.self.inside.threads.len c.fill.new.places c.self.inside.threads.items (fill_at c.args.slot x s.threads) (search rules) (search (rules, len_fill_at)))
    (whole_is c.self.inside.accounts.len c.fill-2.new.places c.self.inside.accounts.items (fill x.account (entry_of x) s.accounts) (search rules) (search (rules, len_fill)))
    (whole_is c.self.inside.users.len c.fill-3.new.places c.self.inside.users.items (fill x.user x.user_name s.users) (search rules) (search (rules, len_fill)))
    (whole_is c.self.inside.hosts.len c.fill-4.new.places c.self.inside.hosts.items (fill x.host x.host_name s.hosts) (search rules) (search (rules, len_fill)))
    (subst AreWell (search rules) c.self.invariant) c.requires.places
