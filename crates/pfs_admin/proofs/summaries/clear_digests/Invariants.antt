use Rattle.pfs_levels.specs.Moves.{Moved, Stays, cost}
use Rattle.pfs_admin.specs.WordChanges.{up_to}
use Rattle.pfs_admin.specs.Truncations.{digest_ask}
use Rattle.pfs_admin.proofs.summaries.clear_digests.Given as goal

abbrev pub invariant-loop-at : goal.invariant-loop-at
invariant-loop-at g l =
    record {
      moved : Moved (up_to digest_ask l.at) l.fn.log l.log (g.H.Readable.seen l.fn.rows).reached (g.H.Readable.seen l.rows).reached;
      stays : Stays (cost (up_to digest_ask l.at)) (g.H.Readable.seen l.fn.rows) (g.H.Readable.seen l.rows) l.fn.log l.log;
    }
