use Rattle.std.proofs.Common.{◌≡◌, None, replicate}
use Rattle.pfs_seats.proofs.seats.empty_seats.Given as goal

abbrev pub invariant-loop : goal.invariant-loop
invariant-loop l = l.seats.items ≡ replicate l.counter None
