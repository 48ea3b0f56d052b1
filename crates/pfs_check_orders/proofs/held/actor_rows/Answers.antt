use Rattle.pfs_check_orders.proofs.ShownFacts.{rows_more}
use Rattle.pfs_setups.specs.HeldRows.{actor_values}
use Rattle.pfs_check_orders.proofs.held.actor_rows.Goals as goal

pub loop-place-preserved : goal.loop-place-preserved
loop-place-preserved c =
    rows_more actor_values c.args.actors.now c.loop-place.place c.row.result.now c.in_ok-row.row _ _ c.row.ensures c.in_ok-row.ensures c.in_ok-push.ensures.ok c.loop-place.invariant
