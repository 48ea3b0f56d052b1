use Rattle.std.proofs.Common.{◌≡◌}
use Rattle.pfs_containers.specs.Connections.{in_use, kept_if}
use Rattle.pfs_containers.specs.Uppers.{upper_of}
use Rattle.pfs_containers.proofs.PlaceLoops.{changed}
use Rattle.pfs_containers.proofs.places.free_unused.Given as goal

abbrev pub invariant-loop-place : goal.invariant-loop-place
invariant-loop-place g l = l.places ≡ changed (λ k x. kept_if (in_use (upper_of l.which) l.threads k) x) 0 l.place l.initial.places
