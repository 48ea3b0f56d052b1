use Rattle.std.proofs.Common.{◌≡◌}
use Rattle.pfs_admin.specs.Truncations.{count_up_to, is_there}
use Rattle.pfs_admin.proofs.charges.count.Given as goal

abbrev pub invariant-loop-place : goal.invariant-loop-place
invariant-loop-place l = l.count ≡ count_up_to (is_there l.containers.now.places l.level) l.place
