use Rattle.std.proofs.Common.{◌≡◌, ◌-◌, length}
use Rattle.pfs_levels.specs.Views.{Used}
use Rattle.pfs_law_session.specs.Deeds.{looks}
use Rattle.pfs_readsets.specs.TablePlaces.{scope_of}
use Rattle.pfs_readsets.specs.ReadProgress.{Reached}
use Rattle.pfs_session.specs.Turns.{Played}
use Rattle.pfs_play.proofs.queries.look_at.Given as goal

abbrev pub invariant-loop-reading : goal.invariant-loop-reading
invariant-loop-reading g l = record {
  reached : Reached l.reader (scope_of l.setting) l.fn.table l.readings.items;
  played : Played (looks l.readings.items) l.fn.session l.session (g.R.Readable.seen l.fn.rows).reached (g.R.Readable.seen l.rows).reached;
  state : l.session.state ≡ l.fn.session.state;
  used : Used 0 0 (length l.readings.items) (g.R.Readable.seen l.fn.rows) (g.R.Readable.seen l.rows) l.fn.session.journal l.session.journal;
}

abbrev pub decreases-loop-reading : goal.decreases-loop-reading
decreases-loop-reading g l = 14402 - length l.readings.items
