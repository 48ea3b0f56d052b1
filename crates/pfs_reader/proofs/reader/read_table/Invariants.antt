use Rattle.std.proofs.Common.{◌-◌, length}
use Rattle.pfs_levels.specs.Calls.{Goes}
use Rattle.pfs_levels.specs.Views.{Same}
use Rattle.pfs_readsets.specs.TablePlaces.{scope_of}
use Rattle.pfs_readsets.specs.ReadProgress.{Reached}
use Rattle.pfs_reader.specs.Readings.{calls_of}
use Rattle.pfs_reader.proofs.reader.read_table.Given as goal

abbrev pub invariant-loop-reading : goal.invariant-loop-reading
invariant-loop-reading g l =
    record {
      reached : Reached l.reader (scope_of l.setting) l.fn.table l.readings.items;
      calls : Goes (g.R.Readable.seen l.fn.rows).reached (g.R.Readable.seen l.rows).reached (calls_of l.readings.items);
      kept : Same (g.R.Readable.seen l.fn.rows) (g.R.Readable.seen l.rows);
    }

abbrev pub decreases-loop-reading : goal.decreases-loop-reading
decreases-loop-reading g l = 14402 - length l.readings.items
