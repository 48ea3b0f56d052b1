use Rattle.pfs_setups.proofs.MadeRows.{grown}
use Rattle.pfs_setups.specs.HeldRows.{object_values}
use Rattle.pfs_setups.proofs.rows.object_rows.Goals as goal

pub loop-place-preserved : goal.loop-place-preserved
loop-place-preserved c =
    grown object_values c.args.objects.now c.loop-place.place c.row.result.now c.in_ok-row.row _ _ c.row.ensures c.in_ok-row.ensures c.in_ok-push.ensures.ok c.loop-place.invariant
