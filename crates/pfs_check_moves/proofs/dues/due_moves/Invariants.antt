use Rattle.std.proofs.Common.{◌≡◌, ◌-◌, ◌++◌, drop, take}
use Rattle.pfs_check_moves.specs.DueMoves.{due_of}
use Rattle.pfs_check_moves.specs.FoundTakes.{counted_in}
use Rattle.pfs_check_moves.proofs.dues.due_moves.Given as goal

abbrev pub invariant-loop-place : goal.invariant-loop-place
invariant-loop-place l =
    l.due.items ++ due_of (counted_in l.found) (take (l.end - l.place) (drop l.place l.entries.entries))
    ≡ due_of (counted_in l.found) (take (l.end - l.fn.order.start) (drop l.fn.order.start l.entries.entries))
