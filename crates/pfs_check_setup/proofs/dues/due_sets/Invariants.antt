use Rattle.std.proofs.Common.{◌≡◌, ◌-◌, ◌++◌, drop, take}
use Rattle.pfs_check_setup.specs.DueSets.{dues_by}
use Rattle.pfs_check_setup.proofs.dues.due_sets.Given as goal

abbrev pub invariant-loop-place : goal.invariant-loop-place
invariant-loop-place l =
    l.due.items ++ dues_by l.counts (take (l.end - l.place) (drop l.place l.entries.entries))
    ≡ dues_by l.counts (take (l.end - l.fn.order.start) (drop l.fn.order.start l.entries.entries))
