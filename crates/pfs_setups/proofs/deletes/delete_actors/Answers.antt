use Rattle.std.proofs.Common.{◌≡◌, ◌∙◌, ◌+◌, ◌-◌, ◌<◌, suc, length, true, false, sym, ap, arith}
use Rattle.pfs_setups.specs.SetupRows.{actor_meets}
use Rattle.pfs_setups.proofs.LoopRows.{removes, leaves}
use Rattle.pfs_setups.proofs.deletes.delete_actors.Goals as goal

pub loop-place-preserved-then-actor_meets : goal.loop-place-preserved-then-actor_meets
loop-place-preserved-then-actor_meets c =
    let next : c.loop-place.place ≡ suc (c.loop-place.place - 1) = omega (arith, c.loop-place-test.true) in
    let within : c.loop-place.place - 1 < length c.args.actors.now = omega (arith, c.loop-place-test.true, c.loop-place.invariant.2) in
    let met : actor_meets c.args.tests.now c.row.result.now ≡ true = sym c.actor_meets.ensures ∙ c.if-actor_meets.true in
    let step = removes (actor_meets c.args.tests.now) c.args.actors.now c.loop-place.actors c.loop-place.place (c.loop-place.place - 1) c.row.result.now next within c.loop-place.invariant.0 c.row.ensures met in
    (c.delete.ensures ∙ step.0, ap (λ n. n + 1) c.loop-place.invariant.1 ∙ sym step.1, omega (arith, next, c.loop-place.invariant.2))

pub loop-place-preserved : goal.loop-place-preserved
loop-place-preserved c =
    let next : c.loop-place.place ≡ suc (c.loop-place.place - 1) = omega (arith, c.loop-place-test.true) in
    let within : c.loop-place.place - 1 < length c.args.actors.now = omega (arith, c.loop-place-test.true, c.loop-place.invariant.2) in
    let met : actor_meets c.args.tests.now c.row.result.now ≡ false = sym c.actor_meets.ensures ∙ c.if-actor_meets.false in
    let step = leaves (actor_meets c.args.tests.now) c.args.actors.now c.loop-place.actors c.loop-place.place (c.loop-place.place - 1) c.row.result.now next within c.loop-place.invariant.0 c.row.ensures met in
    (step.0, c.loop-place.invariant.1 ∙ sym step.1, omega (arith, next, c.loop-place.invariant.2))
