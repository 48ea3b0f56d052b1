use Rattle.std.proofs.Common.{◌≡◌, ◌++◌, map}
use Rattle.pfs_model.specs.Shapes.{added}
use Rattle.pfs_check_parts.proofs.items.put_added.Given as goal

abbrev pub invariant-loop-row : goal.invariant-loop-row
invariant-loop-row l = l.items.items ++ map added l.row-iterator ≡ l.fn.items.items ++ map added l.fn.held.keys
