use Rattle.std.proofs.Common.{◌≡◌, ◌<◌, ◌∙◌, arith, inl, inr, length, sym}
use Rattle.std.specs.Prelude.{◌⊎◌}
use Rattle.pfs_check_finals.proofs.DueTables.{table_differs, tables_end}
use Rattle.pfs_check_finals.proofs.comparing.tables_difference.Goals as goal

pub returns-then-is_some : goal.returns-then-is_some
returns-then-is_some c =
    table_differs c.args.first c.args.due.now c.args.printed.now c.loop-at.at c.loop-at.line c.index-due-at.result c.index-printed-at.result
    c.in_ok-found.found (omega (arith, c.loop-at-test.true, c.fewer-at-end.ensures.low)) (omega (arith, c.loop-at-test.true, c.fewer-at-end.ensures.high))
    c.loop-at.invariant c.index-due-at.is c.index-printed-at.is (sym c.is_some.ensures ∙ c.if-is_some.true) c.in_ok-found.ensures

pub returns : goal.returns
returns c =
    tables_end c.args.first c.args.due.now c.args.printed.now c.loop-at.at c.loop-at.line c.loop-at.invariant
    (omega (arith, c.loop-at.auto.at-end, c.fewer-at-end.ensures.low)) (omega (arith, c.loop-at.auto.at-end, c.fewer-at-end.ensures.high))
    (λ p q. ended c.fewer-at-end.ensures.is p q) c.if-due-printed.false
  where
    ended : (c.fewer-at-end.result ≡ length c.args.due.now) ⊎ (c.fewer-at-end.result ≡ length c.args.printed.now) → c.loop-at.at < length c.args.due.now
        → c.loop-at.at < length c.args.printed.now → ⊥
    ended (inl e) p q = omega (arith, e, p, c.loop-at-test.false)
    ended (inr e) p q = omega (arith, e, q, c.loop-at-test.false)
