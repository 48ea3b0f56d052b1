use Rattle.std.proofs.Common.{◌≡◌}
use Rattle.pfs_levels.specs.Moves.{Did}
use Rattle.pfs_levels.specs.Views.{Used, lent_as}
use Rattle.pfs_admin.specs.WordChanges.{up_to, change_at, changed_up_to}
use Rattle.pfs_admin.specs.Truncations.{off}
use Rattle.pfs_admin.specs.Works.{flagging_calls, flagging_entries}
use Rattle.pfs_admin.proofs.truncations.turn_off.Given as goal

abbrev pub invariant-loop-table : goal.invariant-loop-table
invariant-loop-table g l =
    record {
      did : Did (flagging_calls l.fn.words (up_to (change_at off l.fn.words 96) l.table)) (flagging_entries l.fn.words (up_to (change_at off l.fn.words 96) l.table)) l.fn.log l.log (g.H.Readable.seen l.fn.rows).reached (g.H.Readable.seen l.rows).reached;
      mine : l.words ≡ changed_up_to off l.fn.words 96 l.table;
      used : Used 0 0 l.table (lent_as l.words (g.H.Readable.seen l.fn.rows)) (g.H.Readable.seen l.rows) l.fn.log l.log;
    }
