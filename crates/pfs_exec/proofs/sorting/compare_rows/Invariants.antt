use Rattle.std.proofs.Common.{◌≡◌, drop}
use Rattle.pfs_exec.specs.Selections.{row_cmp}
use Rattle.pfs_exec.proofs.sorting.compare_rows.Given as goal

-- the rows are equal in the columns that were passed, so those that are left decide
abbrev pub invariant-loop-order : goal.invariant-loop-order
invariant-loop-order l = row_cmp l.orders l.a l.b ≡ row_cmp (drop l.order-index l.orders) l.a l.b
