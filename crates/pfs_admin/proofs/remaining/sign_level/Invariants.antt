use Rattle.pfs_levels.specs.Moves.{Stays}
use Rattle.pfs_admin.specs.WordChanges.{up_to}
use Rattle.pfs_admin.specs.Truncations.{count_up_to, flag_at, sign_at}
use Rattle.pfs_admin.specs.Works.{Signed}
use Rattle.pfs_admin.proofs.remaining.sign_level.Given as goal

abbrev pub invariant-loop-place : goal.invariant-loop-place
invariant-loop-place g l =
    record {
      signed : Signed (up_to (sign_at l.written (flag_at l.was) l.containers.now l.level) l.place) l.fn.log l.log (g.H.Readable.seen l.fn.rows).reached (g.H.Readable.seen l.rows).reached;
      stays : Stays (count_up_to (flag_at l.was) l.place) (g.H.Readable.seen l.fn.rows) (g.H.Readable.seen l.rows) l.fn.log l.log;
    }
