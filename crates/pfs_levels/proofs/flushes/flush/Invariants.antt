use Rattle.std.proofs.Common.{take}
use Rattle.std.specs.List.{flat_map}
use Rattle.pfs_levels.specs.Flushes.{asks_of, cells_of, sources_of}
use Rattle.pfs_levels.specs.Moves.{Moved, Stays, cost}
use Rattle.pfs_levels.proofs.flushes.flush.Given as goal

abbrev pub invariant-loop-at : goal.invariant-loop-at
invariant-loop-at g l =
    record {
      moved : Moved (flat_map (asks_of (cells_of l.places l.fn.kind)) (take l.at (sources_of l.places l.level))) l.fn.log l.log (g.H.Readable.seen l.fn.rows).reached (g.H.Readable.seen l.rows).reached;
      stays : Stays (cost (flat_map (asks_of (cells_of l.places l.fn.kind)) (take l.at (sources_of l.places l.level)))) (g.H.Readable.seen l.fn.rows) (g.H.Readable.seen l.rows) l.fn.log l.log;
    }
