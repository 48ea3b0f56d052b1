use Rattle.std.proofs.Common.{◌+◌, sym, ◌∙◌, ap, subst}
use Rattle.pfs_model.specs.Chains.{action_change, change_at}
use Rattle.pfs_check_versions.specs.VersionRules.{IsFound}
use Rattle.pfs_check_setup.proofs.FaultFacts.{fault_is, stands_somewhere}
use Rattle.pfs_check_setup.proofs.faults.fault_at.Goals as goal

pub returns-in_ok-line-in-Some : goal.returns-in_ok-line-in-Some
returns-in_ok-line-in-Some c = λ report asked all knows positive within differs.
    fault_is report asked all c.args.printed.now c.args.actions.now c.args.number c.args.at c.in_ok-line-in-Some.line c.in-Some.made knows positive differs
    (sym c.find.ensures ∙ c.in-Some.is)
    (c.in_ok-line-in-Some.ensures ∙ ap (λ z. c.in-Some.made.line + 1 + z + c.args.at) c.count_in.ensures)

pub returns-in-None : goal.returns-in-None
returns-in-None c = λ report asked all knows positive within differs.
    absurd (stands_somewhere all c.args.number knows.chained positive within
    (subst (IsFound action_change report all (change_at 0 c.args.number)) (sym c.find.ensures ∙ c.in-None.is) (knows.index.each (change_at 0 c.args.number))))
