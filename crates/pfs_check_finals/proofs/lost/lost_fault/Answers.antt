use Rattle.std.proofs.Common.{sym, ◌∙◌, subst}
use Rattle.pfs_check_orders.specs.ActionOrders.{AreOrders}
use Rattle.pfs_check_finals.specs.Differences.{AreComparedFrom}
use Rattle.pfs_check_finals.proofs.LossCounts.{counters_due}
use Rattle.pfs_check_finals.proofs.lost.lost_fault.Goals as goal

pub returns : goal.returns
returns c = λ change labels so_far are losses.
    let due = counters_due c.args.setting.now change labels so_far c.lost_behind-lost.result c.args.losses.now c.counters_of-counters.result losses
    (c.lost_behind-lost.ensures c.args.setting.now change labels c.args.orders.now.entries.entries
    (subst (AreOrders c.args.setting.now change labels c.args.orders.now.entries.entries) (sym c.as_slice.ensures.value) are))
    c.counters_of-counters.ensures in
    subst (λ z. AreComparedFrom c.args.first z c.args.report.now.lost c.in_ok-found.found) (c.as_slice-2.ensures ∙ c.in_ok-due.ensures.rows ∙ due)
    (subst (λ z. AreComparedFrom c.args.first c.as_slice-2.result.now z c.in_ok-found.found) c.as_slice-3.ensures c.in_ok-found.ensures)
