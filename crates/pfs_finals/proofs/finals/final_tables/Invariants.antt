use Rattle.std.proofs.Common.{take}
use Rattle.pfs_levels.specs.Views.{Same}
use Rattle.pfs_finals.specs.Finals.{final_order, AreShown}
use Rattle.pfs_finals.proofs.finals.final_tables.Given as goal

abbrev pub invariant-loop-table : goal.invariant-loop-table
invariant-loop-table g l =
    record {
      shown : AreShown l.setting (take l.table-index final_order) l.tables.items (g.R.Readable.seen l.fn.rows).reached (g.R.Readable.seen l.rows).reached;
      kept : Same (g.R.Readable.seen l.fn.rows) (g.R.Readable.seen l.rows);
    }
