use Rattle.std.proofs.Common.{◌≡◌, ◌≤◌, ◌+◌, ◌++◌, length, take, drop, filter, not, count_by}
use Rattle.pfs_setups.specs.SetupRows.{object_meets}
use Rattle.pfs_setups.proofs.deletes.delete_objects.Given as goal

-- the rows from the place on that are met are gone
abbrev pub invariant-loop-place : goal.invariant-loop-place
invariant-loop-place l = (l.objects ≡ take l.place l.initial.objects ++ filter (λ row. not (object_meets l.tests row)) (drop l.place l.initial.objects)) × (l.met ≡ count_by (object_meets l.tests) (drop l.place l.initial.objects)) × (l.met + l.place ≤ length l.initial.objects)

abbrev pub decreases-loop-place : goal.decreases-loop-place
decreases-loop-place l = l.place
