use Rattle.std.proofs.Common.{◌≡◌, map, take}
use Rattle.pfs_exec.specs.Selections.{named_columns}
use Rattle.pfs_exec.proofs.selecting.show_rows.Given as goal

-- the named columns of the rows that were passed
abbrev pub invariant-loop-row : goal.invariant-loop-row
invariant-loop-row l = l.answer ≡ map (named_columns l.columns) (map (λ row. row.now) (take l.row-index l.rows))
