use Rattle.std.proofs.Common.{◌++◌, ◌∙◌, List, ap}
use Rattle.std.proofs.lemmas.Result.{on_ok_weaker}
use Rattle.pfs_finals.specs.Finals.{shown_rows, table_if}
use Rattle.pfs_text.specs.declared.values.RowValue.{RowValue}
use Rattle.pfs_check_finals.proofs.tables.put_due.Goals as goal

pub returns : goal.returns
returns g c = λ shown stands.
    on_ok_weaker c.add_table.result (λ added. record {
      readings = c.in_ok-readings.readings.items;
      read = record {
        whole = c.in_ok-readings.ensures.whole;
        each = c.in_ok-readings.ensures.each shown stands;
      };
      put = added ∙ ap (λ (rows : List (List RowValue)). c.args.tables.now.items ++ table_if c.args.table rows)
          (c.in_ok-rows.ensures ∙ ap (shown_rows c.args.setting.now c.args.table) c.as_slice.ensures.value);
    }) c.add_table.ensures
