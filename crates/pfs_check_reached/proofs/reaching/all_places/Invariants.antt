use Rattle.std.proofs.Common.{ℕ, ◌<◌}
use Rattle.pfs_model.specs.Actions.{IsAmong}
use Rattle.pfs_check_reached.proofs.reaching.all_places.Given as goal

abbrev pub invariant-loop-place : goal.invariant-loop-place
invariant-loop-place l = (place : ℕ) → place < l.place → IsAmong place l.places.items
