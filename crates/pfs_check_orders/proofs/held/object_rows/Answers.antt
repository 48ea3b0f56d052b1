use Rattle.pfs_check_orders.proofs.ShownFacts.{rows_more}
use Rattle.pfs_setups.specs.HeldRows.{object_values}
use Rattle.pfs_check_orders.proofs.held.object_rows.Goals as goal

pub loop-place-preserved : goal.loop-place-preserved
loop-place-preserved c =
    rows_more object_values c.args.objects.now c.loop-place.place c.row.result.now c.in_ok-row.row _ _ c.row.ensures c.in_ok-row.ensures c.in_ok-push.ensures.ok c.loop-place.invariant
