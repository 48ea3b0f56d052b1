use Rattle.std.proofs.Common.{◌≡◌, suc, ◌∙◌, sym, ap, subst, arith}
use Rattle.pfs_check_moves.specs.DueMoves.{IsFirstMiss, due_of}
use Rattle.pfs_check_moves.specs.FoundTakes.{counted_by}
use Rattle.pfs_check_moves.specs.MovesRules.{AreMoved, FailsAt, own_moves}
use Rattle.pfs_check_orders.specs.ActionOrders.{entries_in}
use Rattle.pfs_check_moves.proofs.FaultFacts.{missed, none_missed}
use Rattle.pfs_check_moves.proofs.faults.fault_of.Goals as goal

pub returns-in-Some : goal.returns-in-Some
returns-in-Some c = λ report given asked all before knows is within ordered.
    let own : c.of.result.now ≡ own_moves all (suc before) =
    c.of.ensures ∙ knows.printed_are.each c.args.number ∙ ap (own_moves all) is in
    c.fault_at.ensures report given c.args.shelf.now asked all c.args.printed.now.kept knows (omega (arith, is)) within
    (subst (λ z. FailsAt given asked all z c.in-Some.at) (sym is)
    (missed report given c.args.shelf.now asked all c.args.printed.now.kept c.args.actions.now c.args.entries.now.entries c.args.order before c.of.result.now knows own ordered
    c.in-Some.at (subst (IsFirstMiss c.args.shelf.now (counted_by c.args.shelf.now c.of.result.now)
    (due_of (counted_by c.args.shelf.now c.of.result.now) (entries_in c.args.entries.now.entries c.args.order)) c.of.result.now) c.in-Some.is
    (c.in_ok-miss.ensures ordered.within))))

pub returns-in-None : goal.returns-in-None
returns-in-None c = λ report given asked all before knows is within ordered.
    let own : c.of.result.now ≡ own_moves all (suc before) =
    c.of.ensures ∙ knows.printed_are.each c.args.number ∙ ap (own_moves all) is in
    subst (AreMoved c.args.shelf.now asked all) (sym is)
    (none_missed report given c.args.shelf.now asked all c.args.printed.now.kept c.args.actions.now c.args.entries.now.entries c.args.order before c.of.result.now knows own ordered
    (subst (IsFirstMiss c.args.shelf.now (counted_by c.args.shelf.now c.of.result.now)
    (due_of (counted_by c.args.shelf.now c.of.result.now) (entries_in c.args.entries.now.entries c.args.order)) c.of.result.now) c.in-None.is
    (c.in_ok-miss.ensures ordered.within)))
