use Rattle.std.proofs.Common.{◌≡◌, ◌≤◌, ◌+◌, ◌++◌, length, take, drop, filter, not, count_by}
use Rattle.pfs_setups.specs.SetupRows.{actor_meets}
use Rattle.pfs_setups.proofs.deletes.delete_actors.Given as goal

-- the rows from the place on that are met are gone
abbrev pub invariant-loop-place : goal.invariant-loop-place
invariant-loop-place l = (l.actors ≡ take l.place l.initial.actors ++ filter (λ row. not (actor_meets l.tests row)) (drop l.place l.initial.actors)) × (l.met ≡ count_by (actor_meets l.tests) (drop l.place l.initial.actors)) × (l.met + l.place ≤ length l.initial.actors)

abbrev pub decreases-loop-place : goal.decreases-loop-place
decreases-loop-place l = l.place
