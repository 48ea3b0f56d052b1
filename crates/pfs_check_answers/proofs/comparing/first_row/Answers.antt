use Rattle.std.proofs.Common.{◌≡◌, ◌∙◌, false, length, refl, subst, sym, take, arith}
use Rattle.pfs_check_finals.specs.Differences.{AreCompared}
use Rattle.pfs_check_answers.proofs.RowDifferences.{differ_end, differ_here, some_differs}
use Rattle.pfs_check_answers.proofs.comparing.first_row.Goals as goal

pub returns-in_default : goal.returns-in_default
returns-in_default c =
    differ_end c.args.due.now c.args.printed.now c.loop-at.at (omega (arith, c.loop-at-test.true)) c.loop-at.invariant.within
    (λ p q. omega (arith, p, c.loop-at-test.true)) (λ p q. omega (arith, q, c.in_default.ensures.lookup)) c.loop-at.invariant.alike

pub returns-then-is_some : goal.returns-then-is_some
returns-then-is_some c =
    differ_here c.args.due.now c.args.printed.now c.loop-at.at c.index-due-at.result c.in-Some.other.now c.loop-at-test.true c.in-Some.ensures.lookup.3.0
    c.index-due-at.is c.in-Some.ensures.lookup.1 c.loop-at.invariant.alike
    (some_differs c.index-due-at.result c.in-Some.other.now c.first_value.result false
    (subst (λ z. AreCompared z c.in-Some.other.now c.first_value.result) c.as_slice.ensures
    (subst (λ z. AreCompared c.as_slice.result.now z c.first_value.result) c.as_slice-in-loop-at.ensures c.first_value.ensures))
    (sym c.is_some.ensures ∙ c.if-is_some.true) refl)

pub returns-then-due-printed : goal.returns-then-due-printed
returns-then-due-printed c =
    differ_end c.args.due.now c.args.printed.now (length c.args.due.now) (omega arith) (omega (arith, c.if-due-printed.true))
    (λ p q. omega (arith, q, c.if-due-printed.true)) (λ p q. omega (arith, p))
    (subst (λ n. take n c.args.due.now ≡ take n c.args.printed.now)
    (let e : c.loop-at.at ≡ length c.args.due.now = omega (arith, c.loop-at-test.false, c.loop-at.auto.at-end) in e) c.loop-at.invariant.alike)
