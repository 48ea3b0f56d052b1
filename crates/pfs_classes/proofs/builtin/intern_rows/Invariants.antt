use Rattle.std.proofs.Common.{◌≡◌, take, map}
use Rattle.pfs_classes.specs.Builtins.{with_rows, row_of}
use Rattle.pfs_classes.proofs.builtin.intern_rows.Given as goal

-- the names of the rows that were passed are interned
abbrev pub invariant-loop-row : goal.invariant-loop-row
invariant-loop-row l = l.names ≡ with_rows l.initial.names (map row_of (take l.row-index l.rows))
