use Rattle.std.proofs.Common.{◌≡◌}
use Rattle.pfs_levels.specs.Moves.{cost}
use Rattle.pfs_admin.specs.WordChanges.{up_to}
use Rattle.pfs_admin.specs.Truncations.{asks_at}
use Rattle.pfs_admin.proofs.charges.level_cost.Given as goal

abbrev pub invariant-loop-place : goal.invariant-loop-place
invariant-loop-place l = l.sum ≡ cost (up_to (asks_at l.containers.now.places l.cells l.level) l.place)
