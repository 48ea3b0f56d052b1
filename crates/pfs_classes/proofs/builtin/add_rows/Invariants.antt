use Rattle.std.proofs.Common.{◌≡◌, take, map}
use Rattle.pfs_classes.specs.Builtins.{after_rows, row_of}
use Rattle.pfs_classes.proofs.builtin.add_rows.Given as goal

-- the classes of the rows that were passed are registered
abbrev pub invariant-loop-row : goal.invariant-loop-row
invariant-loop-row l = l.classes ≡ after_rows l.initial.classes l.names (map row_of (take l.row-index l.rows))
