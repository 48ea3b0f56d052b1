use Rattle.std.proofs.Common.{take, map}
use Rattle.pfs_levels.specs.Flushes.{ask_of}
use Rattle.pfs_levels.specs.Moves.{Moved, Stays, cost}
use Rattle.pfs_levels.proofs.flushes.flush_cells.Given as goal

abbrev pub invariant-loop-cell : goal.invariant-loop-cell
invariant-loop-cell g l =
    record {
      moved : Moved (map (ask_of l.source) (take l.cell-index l.cells)) l.fn.log l.log (g.H.Readable.seen l.fn.rows).reached (g.H.Readable.seen l.rows).reached;
      stays : Stays (cost (map (ask_of l.source) (take l.cell-index l.cells))) (g.H.Readable.seen l.fn.rows) (g.H.Readable.seen l.rows) l.fn.log l.log;
    }
