use Rattle.std.proofs.Common.{◌≡◌, ℕ, Bool, false, ap, get_or, below_more, sym, ◌∙◌, arith}
use Rattle.std.specs.Prelude.{Option, Some}
use Rattle.std.specs.Str.{bytes_eq}
use Rattle.pfs_catalogue.proofs.TableLookups.{found_here, found_none}
use Rattle.pfs_journal.specs.declared.values.TableReport.{TableReport}
use Rattle.pfs_html.proofs.PlaceLists.{no_table, same_item}
use Rattle.pfs_html.proofs.rankings.table_named.Goals as goal

pub returns-then-has_name : goal.returns-then-has_name
returns-then-has_name c =
    let same = same_item c.args.tables.now c.loop-table.table-index c.table-item.result no_table c.loop-table-test.true c.table-item.is in
    let named : TableReport → Bool = λ t. bytes_eq t.name c.args.name.now in
    ap Some (sym same) ∙ sym (found_here named c.args.tables.now c.loop-table.table-index no_table c.loop-table-test.true c.loop-table.invariant (ap named same ∙ (sym c.has_name.ensures ∙ c.if-has_name.true)))

pub loop-table-preserved : goal.loop-table-preserved
loop-table-preserved c =
    let same = same_item c.args.tables.now c.loop-table.table-index c.table-item.result no_table c.loop-table-test.true c.table-item.is in
    let named : TableReport → Bool = λ t. bytes_eq t.name c.args.name.now in
    below_more (λ (k : ℕ). bytes_eq (get_or c.args.tables.now k no_table).name c.args.name.now ≡ false) c.loop-table.table-index c.loop-table.invariant (ap named same ∙ (sym c.has_name.ensures ∙ c.if-has_name.false))

pub returns : goal.returns
returns c = ap (λ (o : Option TableReport). o) (sym (found_none (λ (t : TableReport). bytes_eq t.name c.args.name.now) c.args.tables.now no_table (λ k h. c.loop-table.invariant k (omega arith))))
