use Rattle.std.proofs.Common.{sym, ◌∙◌, subst}
use Rattle.pfs_model.specs.Chains.{action_change, change_at}
use Rattle.pfs_check_versions.specs.VersionRules.{IsFound}
use Rattle.pfs_check_moves.proofs.FaultFacts.{fault_is, stands_somewhere}
use Rattle.pfs_check_moves.proofs.faults.fault_at.Goals as goal

pub returns-in_ok-line-in-Some : goal.returns-in_ok-line-in-Some
returns-in_ok-line-in-Some c = λ report given shelf asked all printed knows positive within fails.
    fault_is report given shelf asked all printed c.args.actions.now c.args.number c.args.at c.in_ok-line-in-Some.line c.in-Some.made knows positive fails
    (sym c.find.ensures ∙ c.in-Some.is) c.in_ok-line-in-Some.ensures

pub returns-in-None : goal.returns-in-None
returns-in-None c = λ report given shelf asked all printed knows positive within fails.
    absurd (stands_somewhere all c.args.number knows.chained positive within
    (subst (IsFound action_change report all (change_at 0 c.args.number)) (sym c.find.ensures ∙ c.in-None.is) (knows.index.each (change_at 0 c.args.number))))
