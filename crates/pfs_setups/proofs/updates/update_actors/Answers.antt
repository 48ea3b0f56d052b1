use Rattle.std.proofs.Common.{◌≡◌, ◌∙◌, ◌+◌, length, true, false, refl, sym, ap, arith}
use Rattle.pfs_matching.specs.ActorRules.{changed_actor}
use Rattle.pfs_setups.specs.SetupRows.{actor_meets}
use Rattle.pfs_setups.specs.Updates.{updated_actor}
use Rattle.pfs_setups.proofs.LoopRows.{changes, stays, length-mixed}
use Rattle.pfs_setups.proofs.updates.update_actors.Goals.{then-actor_meets, else-actor_meets}
use Rattle.pfs_setups.proofs.updates.update_actors.Goals as goal

pub row-requires : goal.row-requires
row-requires c =
    let wide = ap length c.loop-place.invariant.0 ∙ length-mixed (updated_actor c.args.tests.now c.args.change.now) c.args.actors.now c.loop-place.place in
    omega (arith, wide, c.loop-place-test.true, c.loop-place.invariant.3, c.loop-place.invariant.4)

pub loop-place-preserved : goal.loop-place-preserved
loop-place-preserved c = elim c.if-actor_meets.branch [
  | then-actor_meets w ↦
      let met : actor_meets c.args.tests.now c.row.result.now ≡ true = sym c.actor_meets.ensures ∙ w.if-actor_meets.true in
      let step = changes (changed_actor c.args.change.now) (updated_actor c.args.tests.now c.args.change.now) (actor_meets c.args.tests.now) (λ row. refl) c.args.actors.now c.loop-place.actors c.loop-place.place c.row.result.now c.loop-place.invariant.0 c.row.ensures met in (
        w.actors-is ∙ (w.update.ensures ∙ step.0),
        w.met-is ∙ (ap (λ n. n + 1) c.loop-place.invariant.1 ∙ sym step.1),
        omega (arith, w.met-is, c.loop-place.invariant.2),
        omega (arith, c.loop-place-test.true, c.loop-place.invariant.4),
        c.loop-place.invariant.4,
      )
  | else-actor_meets w ↦
      let met : actor_meets c.args.tests.now c.row.result.now ≡ false = sym c.actor_meets.ensures ∙ w.if-actor_meets.false in
      let step = stays (changed_actor c.args.change.now) (updated_actor c.args.tests.now c.args.change.now) (actor_meets c.args.tests.now) (λ row. refl) c.args.actors.now c.loop-place.actors c.loop-place.place c.row.result.now c.loop-place.invariant.0 c.row.ensures met in (
        w.actors-is ∙ step.0,
        w.met-is ∙ (c.loop-place.invariant.1 ∙ sym step.1),
        omega (arith, w.met-is, c.loop-place.invariant.2),
        omega (arith, c.loop-place-test.true, c.loop-place.invariant.4),
        c.loop-place.invariant.4,
      )
]
