use Rattle.std.proofs.Common.{◌≡◌, suc, sym, ◌∙◌, ap, subst, map, arith}
use Rattle.pfs_check_faults.specs.ActionFaults.{sets_due}
use Rattle.pfs_check_setup.specs.PrintedActions.{setting_by}
use Rattle.pfs_check_setup.specs.SetupRules.{IsActionAsked}
use Rattle.pfs_check_setup.proofs.FaultFacts.{counted_more}
use Rattle.pfs_check_setup.proofs.faults.ask_one.Goals as goal

pub returns : goal.returns
returns c = record {
  line = λ report asked all knows less ordered are.
      let next : suc c.args.before ≡ c.in_ok-number.number = omega (arith, c.in_ok-number.ensures) in
      let due : map (setting_by (suc c.args.before)) c.as_slice.result.now ≡ sets_due asked (suc c.args.before) =
      ap (map (setting_by (suc c.args.before))) (c.as_slice.ensures.value ∙ c.in_ok-due.ensures ordered.within) ∙ ordered.dues c.args.counts.now are in
      subst (λ z. IsActionAsked report asked all z c.in_ok-line.line) (sym next)
      (c.in_ok-line.ensures report asked all knows (omega (arith, c.in_ok-number.ensures)) (omega (arith, less, c.in_ok-number.ensures))
      (subst (λ z. map (setting_by z) c.as_slice.result.now ≡ sets_due asked z) next due));
  counts = λ asked ordered are.
      counted_more asked c.args.entries.now.entries c.args.order c.args.before c.args.counts.now c.count_sets.new.counts ordered are
      (c.in_ok-count_sets.ensures ordered.within);
}
