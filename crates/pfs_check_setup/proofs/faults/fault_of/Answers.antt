use Rattle.std.proofs.Common.{subst, Some, None}
use Rattle.pfs_check_setup.specs.DueSets.{IsFirstDifference}
use Rattle.pfs_check_setup.proofs.FaultFacts.{model_differs}
use Rattle.pfs_check_setup.proofs.faults.fault_of.Goals as goal

pub returns-in-Some : goal.returns-in-Some
returns-in-Some c = λ report asked all knows positive within is.
    c.fault_at.ensures report asked all knows positive within
    (model_differs report asked all c.args.printed.now c.args.actions.now c.args.number c.args.due.now c.sets_of.result.now (Some c.in-Some.at) knows is
    c.sets_of.ensures (subst (IsFirstDifference c.args.due.now c.sets_of.result.now) c.in-Some.is c.first_difference.ensures))

pub returns-in-None : goal.returns-in-None
returns-in-None c = λ report asked all knows positive within is.
    model_differs report asked all c.args.printed.now c.args.actions.now c.args.number c.args.due.now c.sets_of.result.now None knows is
    c.sets_of.ensures (subst (IsFirstDifference c.args.due.now c.sets_of.result.now) c.in-None.is c.first_difference.ensures)
