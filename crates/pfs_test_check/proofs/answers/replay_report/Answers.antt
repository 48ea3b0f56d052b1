use Rattle.std.proofs.Common.{subst, sym}
use Rattle.pfs_check_orders.specs.ActionOrders.{IsNamed}
use Rattle.pfs_runs.specs.ScriptLines.{change_in}
use Rattle.pfs_test_check.proofs.answers.replay_report.Goals as goal

pub replay-requires : goal.replay-requires
replay-requires c = λ label.
    subst (λ z. IsNamed c.in-Ok.script.setting.names (change_in z label)) (sym c.as_slice-phases.ensures)
    (c.named_changes.ensures c.args.script.now c.in-Ok.script.setting c.in-Ok.script.phases c.in-Ok.ensures label)
