use Rattle.std.proofs.Common.{length, take}
use Rattle.pfs_levels.specs.Moves.{Stays}
use Rattle.pfs_session.specs.Settlements.{owed_from, Pays}
use Rattle.pfs_session.proofs.paying.pay_all.Given as goal

abbrev pub invariant-loop-cell : goal.invariant-loop-cell
invariant-loop-cell g l = record {
  pays : Pays (owed_from l.slot 0 (take l.cell l.held)) l.fn.log l.log (g.H.Readable.seen l.fn.rows).reached (g.H.Readable.seen l.rows).reached;
  stays : Stays (length (owed_from l.slot 0 (take l.cell l.held))) (g.H.Readable.seen l.fn.rows) (g.H.Readable.seen l.rows) l.fn.log l.log;
}
