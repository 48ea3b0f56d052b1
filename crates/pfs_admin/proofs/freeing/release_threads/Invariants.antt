use Rattle.std.proofs.Common.{◌*◌}
use Rattle.pfs_levels.specs.declared.places.Level.TheVariants as levels
use Rattle.pfs_levels.specs.Moves.{Stays}
use Rattle.pfs_admin.specs.WordChanges.{up_to}
use Rattle.pfs_admin.specs.Truncations.{free_slot, is_there}
use Rattle.pfs_admin.specs.Works.{Signed}
use Rattle.pfs_admin.proofs.freeing.release_threads.Given as goal

abbrev pub invariant-loop-slot : goal.invariant-loop-slot
invariant-loop-slot g l =
    record {
      signed : Signed (up_to (free_slot (is_there l.containers.now.places levels.Thread) l.first l.count) l.slot) l.fn.log l.log (g.H.Readable.seen l.fn.rows).reached (g.H.Readable.seen l.rows).reached;
      stays : Stays (10 * l.slot) (g.H.Readable.seen l.fn.rows) (g.H.Readable.seen l.rows) l.fn.log l.log;
    }
