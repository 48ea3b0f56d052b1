use Rattle.std.proofs.Common.{◌≡◌, ◌≤◌, length, take, count_by}
use Rattle.pfs_setups.specs.SetupRows.{object_meets}
use Rattle.pfs_setups.specs.Updates.{updated_object}
use Rattle.pfs_setups.proofs.LoopRows.{mixed}
use Rattle.pfs_setups.proofs.updates.update_objects.Given as goal

-- the rows that were passed are as they are to be
abbrev pub invariant-loop-place : goal.invariant-loop-place
invariant-loop-place l = (l.objects ≡ mixed (updated_object l.tests l.change) l.place l.initial.objects) × (l.met ≡ count_by (object_meets l.tests) (take l.place l.initial.objects)) × (l.met ≤ l.place) × (l.place ≤ length l.initial.objects) × (l.place-end ≡ length l.initial.objects)
