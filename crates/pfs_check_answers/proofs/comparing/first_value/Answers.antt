use Rattle.std.proofs.Common.{◌≡◌, length, subst, take, arith}
use Rattle.pfs_check_answers.proofs.RowDifferences.{differ_end, differ_here}
use Rattle.pfs_check_answers.proofs.comparing.first_value.Goals as goal

pub returns-in_default : goal.returns-in_default
returns-in_default c =
    differ_end c.args.due.now c.args.printed.now c.loop-at.at (omega (arith, c.loop-at-test.true)) c.loop-at.invariant.within
    (λ p q. omega (arith, p, c.loop-at-test.true)) (λ p q. omega (arith, q, c.in_default.ensures.lookup)) c.loop-at.invariant.alike

pub returns-then-not-is_same_value : goal.returns-then-not-is_same_value
returns-then-not-is_same_value c =
    differ_here c.args.due.now c.args.printed.now c.loop-at.at c.index-due-at.result c.in-Some.other.now c.loop-at-test.true c.in-Some.ensures.lookup.3.0
    c.index-due-at.is c.in-Some.ensures.lookup.1 c.loop-at.invariant.alike (c.is_same_value.ensures.other c.if-not-is_same_value.true)

pub returns-then-due-printed : goal.returns-then-due-printed
returns-then-due-printed c =
    differ_end c.args.due.now c.args.printed.now (length c.args.due.now) (omega arith) (omega (arith, c.if-due-printed.true))
    (λ p q. omega (arith, q, c.if-due-printed.true)) (λ p q. omega (arith, p))
    (subst (λ n. take n c.args.due.now ≡ take n c.args.printed.now)
    (let e : c.loop-at.at ≡ length c.args.due.now = omega (arith, c.loop-at-test.false, c.loop-at.auto.at-end) in e) c.loop-at.invariant.alike)
