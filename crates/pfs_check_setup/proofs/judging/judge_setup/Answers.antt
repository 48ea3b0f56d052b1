use Rattle.std.proofs.Common.{List, length, sym, subst, Some, None}
use Rattle.pfs_model.specs.Chains.{action_change}
use Rattle.pfs_check_faults.specs.ReportCases.{entries_of, terms_in}
use Rattle.pfs_check_orders.specs.declared.orders.Order.{Order}
use Rattle.pfs_check_versions.specs.VersionRules.{IsIndex}
use Rattle.pfs_check_setup.specs.SetupRules.{AreActionsAsked, AreOrdered, KnowsActions}
use Rattle.pfs_check_setup.proofs.SetupFacts.{actions_chained, are_ordered, setup_kept, setup_wrong}
use Rattle.pfs_check_setup.proofs.judging.judge_setup.Goals as goal

pub returns-in-None : goal.returns-in-None
returns-in-None c = λ case found same blocks keeps index are.
    let knows : KnowsActions c.args.report.now (entries_of found) c.in_ok-printed.printed c.args.actions.now = record {
      printed_are = c.in_ok-printed.ensures case found blocks;
      index = subst (λ z. IsIndex action_change z (entries_of found) c.args.actions.now.made) same index;
      chained = actions_chained case found keeps;
    } in
    let ordered : AreOrdered (terms_in case found).asked (entries_of found) c.args.orders.now.entries.entries c.as_slice.result.now =
    subst (AreOrdered (terms_in case found).asked (entries_of found) c.args.orders.now.entries.entries) (sym c.as_slice.ensures.value)
    (are_ordered case found c.args.orders.now keeps are) in
    setup_kept case found c.args.orders.now c.args.report.now keeps are
    (subst (λ (z : List Order). AreActionsAsked c.args.report.now (terms_in case found).asked (entries_of found) (length z) None) c.as_slice.ensures.value
    (subst (AreActionsAsked c.args.report.now (terms_in case found).asked (entries_of found) (length c.as_slice.result.now)) c.in-None.is
    (c.in_ok-line.ensures c.args.report.now (terms_in case found).asked (entries_of found) knows ordered)))

pub returns : goal.returns
returns c = λ case found same blocks keeps index are.
    let knows : KnowsActions c.args.report.now (entries_of found) c.in_ok-printed.printed c.args.actions.now = record {
      printed_are = c.in_ok-printed.ensures case found blocks;
      index = subst (λ z. IsIndex action_change z (entries_of found) c.args.actions.now.made) same index;
      chained = actions_chained case found keeps;
    } in
    let ordered : AreOrdered (terms_in case found).asked (entries_of found) c.args.orders.now.entries.entries c.as_slice.result.now =
    subst (AreOrdered (terms_in case found).asked (entries_of found) c.args.orders.now.entries.entries) (sym c.as_slice.ensures.value)
    (are_ordered case found c.args.orders.now keeps are) in
    setup_wrong case found c.args.orders.now c.args.report.now c.in-Some.line same keeps are
    (subst (λ (z : List Order). AreActionsAsked c.args.report.now (terms_in case found).asked (entries_of found) (length z) (Some c.in-Some.line)) c.as_slice.ensures.value
    (subst (AreActionsAsked c.args.report.now (terms_in case found).asked (entries_of found) (length c.as_slice.result.now)) c.in-Some.is
    (c.in_ok-line.ensures c.args.report.now (terms_in case found).asked (entries_of found) knows ordered)))
