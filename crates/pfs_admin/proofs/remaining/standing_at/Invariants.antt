use Rattle.std.proofs.Common.{◌≡◌, ◌<◌, ℕ, length}
use Rattle.pfs_admin.specs.Truncations.{flag_at, is_there}
use Rattle.pfs_admin.proofs.remaining.standing_at.Given as goal

abbrev pub invariant-loop-place : goal.invariant-loop-place
invariant-loop-place l = (length l.there ≡ 32) × ((place : ℕ) → place < l.place → flag_at l.there place ≡ is_there l.containers.now.places l.level place)
