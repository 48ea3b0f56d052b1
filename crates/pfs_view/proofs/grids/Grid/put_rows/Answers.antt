use Rattle.pfs_view.specs.Grids.{row_line, row_lines}
use Rattle.pfs_view.proofs.WrittenParts.{stopped_at}
use Rattle.pfs_view.proofs.grids.Grid.put_rows.Goals as goal

pub returns-in-Err : goal.returns-in-Err
unfolding row_lines
returns-in-Err g c =
    stopped_at (row_line c.args.self.now.layout.headings c.args.self.now.layout.times c.args.widths.now) c.args.self.now.rows.now c.loop-row.row-index c.row-item.result (g.K.Sink.written c.args.sink.now) (g.K.Sink.written c.loop-row.sink) (g.K.Sink.written c.put_row.new.sink) (g.K.Sink.faults c.args.sink.now) (g.K.Sink.faults c.loop-row.sink) (g.K.Sink.faults c.put_row.new.sink) c.in-Err.stop c.loop-row-test.true c.row-item.is c.loop-row.invariant c.in-Err.ensures
