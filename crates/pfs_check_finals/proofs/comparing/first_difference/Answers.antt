use Rattle.std.proofs.Common.{◌≡◌, ◌<◌, ◌∙◌, arith, inl, inr, length, subst, sym, take}
use Rattle.std.specs.Prelude.{◌⊎◌}
use Rattle.pfs_check_finals.proofs.ListDifferences.{differ_end, differ_here}
use Rattle.pfs_check_finals.proofs.comparing.first_difference.Goals as goal

pub returns-then-not-is_same : goal.returns-then-not-is_same
returns-then-not-is_same g c =
    differ_here c.args.due.now c.args.printed.now c.loop-at.at c.index-due-at.result c.index-printed-at.result
    (omega (arith, c.loop-at-test.true, c.fewer-few.ensures.low)) (omega (arith, c.loop-at-test.true, c.fewer-few.ensures.high)) c.index-due-at.is
    c.index-printed-at.is c.loop-at.invariant (c.is_same.ensures.other c.if-not-is_same.true)

pub returns : goal.returns
returns g c =
    differ_end c.args.due.now c.args.printed.now c.fewer-few.result c.fewer-few.ensures.low c.fewer-few.ensures.high
    (λ p q. c.if-due-printed.false (sym p ∙ q)) (λ p q. ended c.fewer-few.ensures.is p q)
    (subst (λ n. take n c.args.due.now ≡ take n c.args.printed.now)
    (let e : c.loop-at.at ≡ c.fewer-few.result = omega (arith, c.loop-at-test.false, c.loop-at.auto.at-end) in e) c.loop-at.invariant)
  where
    ended : (c.fewer-few.result ≡ length c.args.due.now) ⊎ (c.fewer-few.result ≡ length c.args.printed.now) → c.fewer-few.result < length c.args.due.now
        → c.fewer-few.result < length c.args.printed.now → ⊥
    ended (inl e) p q = omega (arith, e, p)
    ended (inr e) p q = omega (arith, e, q)
