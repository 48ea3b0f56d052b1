use Rattle.pfs_finals.specs.Finals.{final_order}
use Rattle.pfs_check_finals.proofs.DueTables.{due_all, due_next, due_none}
use Rattle.pfs_check_finals.proofs.tables.due_tables.Goals as goal

pub loop-table-init : goal.loop-table-init
loop-table-init g c = rw c.new-tables.ensures.items (λ shown stands. due_none c.args.setting.now (shown c.args.phase))

pub loop-table-preserved : goal.loop-table-preserved
loop-table-preserved g c = λ shown stands.
    due_next c.args.setting.now (shown c.args.phase) final_order c.loop-table.table-index _ c.loop-table.tables.items c.put_due.new.tables.items
    c.loop-table-test.true (c.loop-table.invariant shown stands) (c.in_ok-put_due.ensures shown stands)

pub returns : goal.returns
returns g c = λ shown stands.
    due_all c.args.setting.now (shown c.args.phase) final_order c.loop-table.table-index c.loop-table.tables.items c.loop-table-test.false
    (c.loop-table.invariant shown stands)
