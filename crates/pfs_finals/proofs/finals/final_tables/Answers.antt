use Rattle.pfs_reader.proofs.Readings.{kept_all, kept_then}
use Rattle.pfs_finals.specs.Finals.{final_order}
use Rattle.pfs_finals.proofs.JoinedTables.{shown_none, shown_next, shown_stop}
use Rattle.pfs_finals.proofs.finals.final_tables.Goals as goal

pub loop-table-init : goal.loop-table-init
loop-table-init g c =
    rw c.new-tables.ensures.items (record {
      shown = shown_none c.args.setting.now (g.R.Readable.seen c.args.rows.now).reached;
      kept = kept_all (g.R.Readable.seen c.args.rows.now);
    })

pub loop-table-preserved : goal.loop-table-preserved
loop-table-preserved g c =
    record {
      shown = shown_next c.args.setting.now final_order c.loop-table.table-index _ c.loop-table.tables.items c.put_table.new.tables.items (g.R.Readable.seen c.args.rows.now).reached (g.R.Readable.seen c.loop-table.rows).reached (g.R.Readable.seen c.put_table.new.rows).reached c.loop-table-test.true c.loop-table.invariant.shown c.in-Ok.ensures.put;
      kept = kept_then _ _ _ c.loop-table.invariant.kept c.put_table.ensures.kept;
    }

pub returns-in-Err-clause-stopped : goal.returns-in-Err-clause-stopped
returns-in-Err-clause-stopped g c =
    shown_stop c.args.setting.now final_order c.loop-table.table-index _ c.loop-table.tables.items (g.R.Readable.seen c.args.rows.now).reached (g.R.Readable.seen c.loop-table.rows).reached (g.R.Readable.seen c.put_table.new.rows).reached c.loop-table-test.true c.loop-table.invariant.shown c.in-Err.ensures.stopped
