use Rattle.pfs_levels.specs.Moves.{Moved, Stays, cost}
use Rattle.pfs_admin.specs.WordChanges.{up_to}
use Rattle.pfs_admin.specs.Truncations.{asks_at}
use Rattle.pfs_admin.proofs.emptying.empty_level.Given as goal

abbrev pub invariant-loop-place : goal.invariant-loop-place
invariant-loop-place g l =
    record {
      moved : Moved (up_to (asks_at l.containers.now.places l.cells l.level) l.place) l.fn.log l.log (g.H.Readable.seen l.fn.rows).reached (g.H.Readable.seen l.rows).reached;
      stays : Stays (cost (up_to (asks_at l.containers.now.places l.cells l.level) l.place)) (g.H.Readable.seen l.fn.rows) (g.H.Readable.seen l.rows) l.fn.log l.log;
    }
