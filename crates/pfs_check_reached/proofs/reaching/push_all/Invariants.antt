use Rattle.std.proofs.Common.{◌≡◌, ◌++◌, take}
use Rattle.pfs_check_reached.proofs.reaching.push_all.Given as goal

abbrev pub invariant-loop-place : goal.invariant-loop-place
invariant-loop-place l = l.ready.items ≡ l.fn.ready.items ++ take l.place-index l.places
