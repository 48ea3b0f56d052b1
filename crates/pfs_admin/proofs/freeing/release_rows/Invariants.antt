use Rattle.pfs_levels.specs.Moves.{Stays}
use Rattle.pfs_admin.specs.WordChanges.{up_to}
use Rattle.pfs_admin.specs.Truncations.{freed_at}
use Rattle.pfs_admin.specs.Works.{Signed}
use Rattle.pfs_admin.proofs.freeing.release_rows.Given as goal

abbrev pub invariant-loop-place : goal.invariant-loop-place
invariant-loop-place g l =
    record {
      signed : Signed (up_to (freed_at l.first) l.place) l.fn.log l.log (g.H.Readable.seen l.fn.rows).reached (g.H.Readable.seen l.rows).reached;
      stays : Stays l.place (g.H.Readable.seen l.fn.rows) (g.H.Readable.seen l.rows) l.fn.log l.log;
    }
