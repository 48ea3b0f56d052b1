use Rattle.pfs_view.specs.ShownReports.{chosen_of, chosen_text, tables_text}
use Rattle.pfs_view.proofs.WrittenParts.{stopped_at}
use Rattle.pfs_view.proofs.phases.put_tables.Goals as goal

pub returns-in-Err : goal.returns-in-Err
unfolding tables_text
returns-in-Err g c =
    stopped_at (chosen_text (chosen_of c.args.choice.now)) c.args.tables.now c.loop-table.table-index c.table-item.result (g.K.Sink.written c.args.sink.now) (g.K.Sink.written c.loop-table.sink) (g.K.Sink.written c.put_chosen.new.sink) (g.K.Sink.faults c.args.sink.now) (g.K.Sink.faults c.loop-table.sink) (g.K.Sink.faults c.put_chosen.new.sink) c.in-Err.stop c.loop-table-test.true c.table-item.is c.loop-table.invariant c.in-Err.ensures
