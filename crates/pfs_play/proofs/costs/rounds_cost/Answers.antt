use Rattle.std.proofs.Common.{◌<◌, length, arith}
use Rattle.pfs_play.proofs.LineCosts.{few_each, rounds_fit}
use Rattle.pfs_play.proofs.costs.rounds_cost.Goals as goal

pub overflow_mul-result : goal.overflow_mul-result
overflow_mul-result c =
    let few = rounds_fit c.args.times c.loop-line.entries c.loop-line.line-index c.loop-line.invariant.few in
    let all = rounds_fit c.args.times c.loop-line.entries (length c.args.body.now) (omega (arith, c.loop-line.invariant.few, c.loop-line.auto.line-index-end)) in
    omega (arith, all, c.requires.short)

pub overflow_add-entries : goal.overflow_add-entries
overflow_add-entries c =
    let some : 0 < c.args.times = omega (arith, c.if-times-eq0.false) in
    let most = few_each c.args.times (length c.args.body.now) some c.requires.short in
    omega (arith, most, c.loop-line.invariant.few, c.loop-line-test.true, c.in-Ok.ensures.few)
