use Rattle.std.proofs.Common.{ℕ, List, ◌+◌, ◌++◌, ◌∙◌, Err, subst, sym, take, drop}
use Rattle.std.specs.Prelude.{filter}
use Rattle.std.specs.List.{flat_map}
use Rattle.pfs_journal.specs.Spelling.{table_text}
use Rattle.pfs_law_load.specs.LoadText.{is_summary}
use Rattle.pfs_outside.specs.WholeStreams.{Puts}
use Rattle.pfs_outside.proofs.SinkWrites.{puts_then, puts_stop}
use Rattle.pfs_top.proofs.WrittenTables.{written_around}
use Rattle.pfs_top.proofs.loads.put_summaries.Goals as goal

pub returns-in-Err : goal.returns-in-Err
returns-in-Err g c =
    let tables = c.args.tables.now in
    let i = c.loop-table.table-index in
    let table = c.table-item.result in
    let written = g.K.Sink.written in
    let faults = g.K.Sink.faults in
    let behind = flat_map table_text (filter is_summary (drop (i + 1) tables)) in
    let stopped = puts_stop (written c.loop-table.sink) (written c.write_table.new.sink) (faults c.loop-table.sink) (faults c.write_table.new.sink) (table_text table) behind c.in-Err.stop c.in-Err.ensures.puts in
    let all = puts_then (written c.args.sink.now) (written c.loop-table.sink) (written c.write_table.new.sink) (faults c.args.sink.now) (faults c.loop-table.sink) (faults c.write_table.new.sink) (flat_map table_text (filter is_summary (take i tables))) (table_text table ++ behind) (Err c.in-Err.stop) c.loop-table.invariant stopped in
    subst (λ (z : List ℕ). Puts (written c.args.sink.now) (written c.write_table.new.sink) (faults c.args.sink.now) (faults c.write_table.new.sink) z (Err c.in-Err.stop))
    (sym (written_around table_text is_summary tables i table c.loop-table-test.true c.table-item.is (sym c.is_summary.ensures ∙ c.if-is_summary.true))) all
