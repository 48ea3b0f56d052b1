use Rattle.std.proofs.Common.{◌≡◌, cond}
use Rattle.pfs_containers.specs.Connections.{in_use}
use Rattle.pfs_containers.specs.Uppers.{upper_of}
use Rattle.pfs_containers.proofs.PlaceLoops.{changed}
use Rattle.pfs_containers.proofs.places.forget_unused.Given as goal

abbrev pub invariant-loop-place : goal.invariant-loop-place
invariant-loop-place l = l.totals ≡ changed (λ k x. cond (in_use (upper_of l.which) l.threads k) x 0) 0 l.place l.initial.totals
