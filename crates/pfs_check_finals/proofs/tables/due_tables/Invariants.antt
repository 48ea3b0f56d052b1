use Rattle.std.proofs.Common.{ℕ, take}
use Rattle.pfs_finals.specs.Finals.{final_order}
use Rattle.pfs_readsets.specs.declared.target.Target.{Target}
use Rattle.pfs_rows.specs.declared.table.Reading.{Reading}
use Rattle.pfs_check_finals.specs.EndTables.{AreDueOf}
use Rattle.pfs_check_finals.proofs.tables.due_tables.Given as goal

abbrev pub invariant-loop-table : goal.invariant-loop-table
invariant-loop-table g l = (shown : ℕ → Target → Reading) → g.S.Standing.stands l.standing shown
    → AreDueOf l.setting (shown l.phase) (take l.table-index final_order) l.tables.items
