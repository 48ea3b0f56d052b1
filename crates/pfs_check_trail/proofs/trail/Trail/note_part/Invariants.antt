use Rattle.std.proofs.Common.{◌-◌, take, drop}
use Rattle.pfs_model.specs.Contexts.{after_entries}
use Rattle.pfs_check_trail.specs.Trails.{IsTrailOf}
use Rattle.pfs_check_trail.proofs.trail.Trail.note_part.Given as goal

abbrev pub invariant-loop-place : goal.invariant-loop-place
invariant-loop-place l =
    IsTrailOf (after_entries l.subject l.fn.self (take (l.to - l.from) (drop l.from l.entries)))
    (after_entries l.subject l.self (take (l.to - l.place) (drop l.place l.entries)))
