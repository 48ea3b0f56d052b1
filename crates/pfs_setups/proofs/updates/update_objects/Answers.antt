use Rattle.std.proofs.Common.{◌≡◌, ◌∙◌, ◌+◌, length, true, false, refl, sym, ap, arith}
use Rattle.pfs_matching.specs.ObjectRules.{changed_object}
use Rattle.pfs_setups.specs.SetupRows.{object_meets}
use Rattle.pfs_setups.specs.Updates.{updated_object}
use Rattle.pfs_setups.proofs.LoopRows.{changes, stays, length-mixed}
use Rattle.pfs_setups.proofs.updates.update_objects.Goals.{then-object_meets, else-object_meets}
use Rattle.pfs_setups.proofs.updates.update_objects.Goals as goal

pub row-requires : goal.row-requires
row-requires c =
    let wide = ap length c.loop-place.invariant.0 ∙ length-mixed (updated_object c.args.tests.now c.args.change.now) c.args.objects.now c.loop-place.place in
    omega (arith, wide, c.loop-place-test.true, c.loop-place.invariant.3, c.loop-place.invariant.4)

pub loop-place-preserved : goal.loop-place-preserved
loop-place-preserved c = elim c.if-object_meets.branch [
  | then-object_meets w ↦
      let met : object_meets c.args.tests.now c.row.result.now ≡ true = sym c.object_meets.ensures ∙ w.if-object_meets.true in
      let step = changes (changed_object c.args.change.now) (updated_object c.args.tests.now c.args.change.now) (object_meets c.args.tests.now) (λ row. refl) c.args.objects.now c.loop-place.objects c.loop-place.place c.row.result.now c.loop-place.invariant.0 c.row.ensures met in (
        w.objects-is ∙ (w.update.ensures ∙ step.0),
        w.met-is ∙ (ap (λ n. n + 1) c.loop-place.invariant.1 ∙ sym step.1),
        omega (arith, w.met-is, c.loop-place.invariant.2),
        omega (arith, c.loop-place-test.true, c.loop-place.invariant.4),
        c.loop-place.invariant.4,
      )
  | else-object_meets w ↦
      let met : object_meets c.args.tests.now c.row.result.now ≡ false = sym c.object_meets.ensures ∙ w.if-object_meets.false in
      let step = stays (changed_object c.args.change.now) (updated_object c.args.tests.now c.args.change.now) (object_meets c.args.tests.now) (λ row. refl) c.args.objects.now c.loop-place.objects c.loop-place.place c.row.result.now c.loop-place.invariant.0 c.row.ensures met in (
        w.objects-is ∙ step.0,
        w.met-is ∙ (c.loop-place.invariant.1 ∙ sym step.1),
        omega (arith, w.met-is, c.loop-place.invariant.2),
        omega (arith, c.loop-place-test.true, c.loop-place.invariant.4),
        c.loop-place.invariant.4,
      )
]
