use Rattle.std.proofs.Common.{◌≡◌, take}
use Rattle.pfs_exec.specs.Selections.{named_columns}
use Rattle.pfs_exec.proofs.selecting.show_row.Given as goal

-- the values of the columns that were passed
abbrev pub invariant-loop-column : goal.invariant-loop-column
invariant-loop-column l = l.shown ≡ named_columns (take l.column-index l.columns) l.row
