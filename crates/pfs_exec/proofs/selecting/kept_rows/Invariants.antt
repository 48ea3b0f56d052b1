use Rattle.std.proofs.Common.{◌≡◌, map, filter, take}
use Rattle.pfs_exec.specs.Selections.{meets_all}
use Rattle.pfs_exec.proofs.selecting.kept_rows.Given as goal

-- those of the rows that were passed which meet the conditions
abbrev pub invariant-loop-row : goal.invariant-loop-row
invariant-loop-row l = map (λ row. row.now) l.kept.items ≡ filter (meets_all l.tests) (take l.row-index l.rows)
