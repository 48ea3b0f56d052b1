use Rattle.std.proofs.Common.{◌≡◌}
use Rattle.pfs_containers.specs.Administration.{current}
use Rattle.pfs_containers.specs.Uppers.{upper_of}
use Rattle.pfs_containers.proofs.PlaceLoops.{changed}
use Rattle.pfs_containers.proofs.places.count_anew.Given as goal

abbrev pub invariant-loop-place : goal.invariant-loop-place
invariant-loop-place l = l.totals ≡ changed (λ k x. current (upper_of l.which) l.threads k) 0 l.place l.initial.totals
