use Rattle.std.proofs.Common.{◌≤◌}
use Rattle.pfs_test_store.proofs.board.actions.lines_of.Given as goal

abbrev pub invariant-loop-label : goal.invariant-loop-label
invariant-loop-label l = l.count ≤ l.label-index
