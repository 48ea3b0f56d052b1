use Rattle.std.proofs.Common.{◌++◌, List, ap, ◌∙◌}
use Rattle.std.proofs.lemmas.Result.{on_ok_weaker}
use Rattle.pfs_text.specs.declared.values.RowValue.{RowValue}
use Rattle.pfs_finals.specs.Finals.{shown_rows, table_if}
use Rattle.pfs_finals.proofs.JoinedTables.{on_err, whole_in_part}
use Rattle.pfs_finals.proofs.finals.put_table.Goals as goal

pub returns-clause-put : goal.returns-clause-put
returns-clause-put g c =
    on_ok_weaker c.add_table.result (λ added. record {
      readings = c.in_ok-readings.readings;
      read = c.in_ok-readings.ensures.read;
      calls = c.in_ok-readings.ensures.calls;
      put = added ∙ ap (λ (rows : List (List RowValue)). c.args.tables.now.items ++ table_if c.args.table rows) (c.in_ok-shown.ensures ∙ ap (shown_rows c.args.setting.now c.args.table) c.as_slice.ensures);
    }) c.add_table.ensures

pub returns-in_err-readings-clause-stopped : goal.returns-in_err-readings-clause-stopped
returns-in_err-readings-clause-stopped g c = on_err _ c.in_err-readings.ensures.front

pub returns-in_err-shown-clause-stopped : goal.returns-in_err-shown-clause-stopped
returns-in_err-shown-clause-stopped g c =
    let read = c.in_ok-readings.ensures in
    on_err _ (whole_in_part c.args.setting.now c.args.table c.in_ok-readings.readings (g.R.Readable.seen c.args.rows.now).reached (g.R.Readable.seen c.read_table.new.rows).reached read.read read.calls)

pub returns-clause-stopped : goal.returns-clause-stopped
returns-clause-stopped g c =
    let read = c.in_ok-readings.ensures in
    on_err c.add_table.result (whole_in_part c.args.setting.now c.args.table c.in_ok-readings.readings (g.R.Readable.seen c.args.rows.now).reached (g.R.Readable.seen c.read_table.new.rows).reached read.read read.calls)
