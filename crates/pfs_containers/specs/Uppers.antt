-- The places that a session may have beside its slot.
use Rattle.std.specs.Prelude.{ℕ, Option}
use Rattle.pfs_containers.specs.declared.containers.Connection.{Connection}
use Rattle.pfs_containers.specs.declared.places.Upper.{Upper}
use Rattle.pfs_containers.specs.declared.places.Upper.TheVariants as at

abbrev pub upper_of : Upper → Connection → Option ℕ
upper_of at.Account x = x.account
upper_of at.User x = x.user
upper_of at.Host x = x.host
