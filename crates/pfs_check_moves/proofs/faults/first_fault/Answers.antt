use Rattle.std.proofs.Common.{◌≡◌, suc, ◌+◌, length, sym, subst, arith}
use Rattle.pfs_check_moves.specs.MovesRules.{AreActionsMoved, IsActionMoved}
use Rattle.pfs_check_moves.proofs.FaultFacts.{fewer_asked, none_asked_yet, one_asked, ordered_at}
use Rattle.pfs_check_moves.proofs.faults.first_fault.Goals as goal

pub loop-before-init : goal.loop-before-init
loop-before-init c = λ report given asked all knows ordered. none_asked_yet report given c.args.shelf.now asked all

pub loop-before-preserved : goal.loop-before-preserved
loop-before-preserved c = λ report given asked all knows ordered.
    let before = c.loop-before.before in
    let next : suc before ≡ before + 1 = omega arith in
    let asks = c.in_ok-next.ensures report given asked all before knows (sym next) (omega (arith, c.loop-before-test.true, ordered.count))
    (ordered_at asked all c.args.entries.now.entries c.args.orders.now before _ ordered c.loop-before-test.true) in
    subst (λ z. AreActionsMoved report given c.args.shelf.now asked all z c.lower_line-line.result) next
    (subst (AreActionsMoved report given c.args.shelf.now asked all (suc before)) (sym c.lower_line-line.ensures)
    (one_asked report given c.args.shelf.now asked all c.args.printed.now.kept c.args.actions.now knows before c.loop-before.line c.in_ok-next.next
    (c.loop-before.invariant report given asked all knows ordered)
    (subst (λ z. IsActionMoved report given c.args.shelf.now asked all z c.in_ok-next.next) (sym next) asks)))

pub returns : goal.returns
returns c = λ report given asked all knows ordered.
    fewer_asked report given c.args.shelf.now asked all (length c.args.orders.now) c.loop-before.before c.loop-before.line c.loop-before-test.false
    (c.loop-before.invariant report given asked all knows ordered)
