use Rattle.std.proofs.Common.{◌≡◌}
use Rattle.pfs_levels.specs.Moves.{Did}
use Rattle.pfs_levels.specs.Views.{Used, lent_as}
use Rattle.pfs_admin.specs.WordChanges.{up_to, change_at, changed_up_to}
use Rattle.pfs_admin.specs.Works.{flagging_calls, flagging_entries}
use Rattle.pfs_setups.specs.Updates as updates
use Rattle.pfs_admin.proofs.setups.set_updated.Given as goal

abbrev pub invariant-loop-at : goal.invariant-loop-at
invariant-loop-at g l =
    let change = updates.flags_behind l.fn.names l.fn.containers.now.places.threads l.fn.objects l.fn.what in
    let first = l.first in
    record {
      did : Did (flagging_calls l.fn.words (up_to (change_at change l.fn.words first) l.at)) (flagging_entries l.fn.words (up_to (change_at change l.fn.words first) l.at)) l.fn.log l.log (g.H.Readable.seen l.fn.rows).reached (g.H.Readable.seen l.rows).reached;
      mine : l.words ≡ changed_up_to change l.fn.words first l.at;
      used : Used 0 0 l.at (lent_as l.words (g.H.Readable.seen l.fn.rows)) (g.H.Readable.seen l.rows) l.fn.log l.log;
    }
