use Rattle.pfs_journal.specs.ReportLines.{table_lines}
use Rattle.pfs_check_line_numbers.proofs.LineSteps.{part_long, reach_more, reach_over, too_many}
use Rattle.pfs_check_line_numbers.proofs.line_counts.behind_tables.Goals as goal

pub loop-table-preserved : goal.loop-table-preserved
loop-table-preserved c = reach_more table_lines c.args.line c.loop-table.end c.in_ok-end.end c.loop-table.table-index c.args.tables.now
    c.table-item.result c.loop-table-test.true c.table-item.is c.loop-table.invariant c.in_ok-end.ensures

pub returns : goal.returns
returns c = reach_over table_lines c.args.line c.loop-table.end c.loop-table.table-index c.args.tables.now c.loop-table-test.false
    c.loop-table.invariant

pub returns-in_err-end : goal.returns-in_err-end
returns-in_err-end c = too_many _ _ _ c.from_residual.ensures.1
    (part_long table_lines c.args.line c.loop-table.end c.loop-table.table-index c.args.tables.now c.table-item.result c.loop-table-test.true
    c.table-item.is c.loop-table.invariant c.in_err-end.ensures)
