use Rattle.std.proofs.Common.{refl, arith}
use Rattle.pfs_rows.proofs.LimitRanges.{together, order_of-lt}
use Rattle.pfs_rows.proofs.limits.Layout.new.Goals as goal

pub invariant_of-result : goal.invariant_of-result
invariant_of-result c = together c.args.limits (λ d. c.loop-limit.invariant d (omega (arith, order_of-lt d)))

pub returns-clause-ok : goal.returns-clause-ok
returns-clause-ok c = (refl, together c.args.limits (λ d. c.loop-limit.invariant d (omega (arith, order_of-lt d))))
