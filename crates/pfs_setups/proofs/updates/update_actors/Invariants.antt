use Rattle.std.proofs.Common.{◌≡◌, ◌≤◌, length, take, count_by}
use Rattle.pfs_setups.specs.SetupRows.{actor_meets}
use Rattle.pfs_setups.specs.Updates.{updated_actor}
use Rattle.pfs_setups.proofs.LoopRows.{mixed}
use Rattle.pfs_setups.proofs.updates.update_actors.Given as goal

-- the rows that were passed are as they are to be
abbrev pub invariant-loop-place : goal.invariant-loop-place
invariant-loop-place l = (l.actors ≡ mixed (updated_actor l.tests l.change) l.place l.initial.actors) × (l.met ≡ count_by (actor_meets l.tests) (take l.place l.initial.actors)) × (l.met ≤ l.place) × (l.place ≤ length l.initial.actors) × (l.place-end ≡ length l.initial.actors)
