use Rattle.std.proofs.Common.{◌≡◌, refl, ℕ, Bool, List, [], sym, ◌∙◌, ap, subst}
use Rattle.pfs_board.specs.declared.view.Label.{Label}
use Rattle.pfs_journal.specs.declared.report.ReportParts.{ReportParts}
use Rattle.pfs_model.specs.Chains.{action_change}
use Rattle.pfs_check_cut.specs.CutReports.{phases_by}
use Rattle.pfs_check_faults.specs.declared.rules.Rule.TheVariants as rules
use Rattle.pfs_check_faults.specs.ReportCases.{entries_of}
use Rattle.pfs_check_faults.specs.ShapeFaults.{IsCut}
use Rattle.pfs_check_numbers.specs.OrderAnswers.{AreOrdersOf, IsNumbersJudged}
use Rattle.pfs_check_numbers.specs.declared.judging.NumbersRule.TheVariants as numbers
use Rattle.pfs_check_orders.specs.ActionOrders.{AreOrders}
use Rattle.pfs_check_versions.specs.VersionRules.{IsActionsJudged, IsChainJudged, IsIndex}
use Rattle.pfs_check_versions.specs.declared.judging.ActionRule.TheVariants as acts
use Rattle.pfs_check_versions.specs.declared.judging.ChainRule.TheVariants as chains
use Rattle.pfs_runs.specs.ScriptLines.{change_in}
use Rattle.pfs_check_grounds.proofs.RuleSteps.{KeptUpTo, blocks_are, first_kept, found_before, found_with, step_kept, stopped}
use Rattle.pfs_check_grounds.proofs.finding.find_grounds.Goals as goal

pub returns-in_err-cuts : goal.returns-in_err-cuts
returns-in_err-cuts c = λ case setting phases report.
    stopped rules.Shape case (found_before case [] []) _ c.from_residual.result c.from_residual.ensures.1
    (c.order.ensures.first case (found_before case [] [])) (c.in_err-cuts.ensures case (found_before case [] []) phases report)

pub returns-in_err-found : goal.returns-in_err-found
returns-in_err-found c = λ case setting phases report.
    let cuts = c.in_ok-cuts.cuts.items in
    let found = found_before case cuts [] in
    let shape : IsCut case.phases case.report (phases_by cuts case.report.phases) = c.in_ok-cuts.ensures case found phases report in
    let keeps : KeptUpTo rules.Actions case cuts [] = first_kept c.order.ensures.first c.order.ensures.next case cuts [] shape in
    stopped rules.Actions case found _ c.from_residual-in_err-found.result c.from_residual-in_err-found.ensures.1
    (keeps found.counted found.content) (c.in_err-found.ensures case found report shape)

pub returns-in_err-changes : goal.returns-in_err-changes
returns-in_err-changes c = λ case setting phases report.
    let cuts = c.in_ok-cuts.cuts.items in
    let labels = c.in_ok-found.found.labels.items in
    let first = c.order.ensures.first in
    let next = c.order.ensures.next in
    let shape : IsCut case.phases case.report (phases_by cuts case.report.phases) = c.in_ok-cuts.ensures case (found_before case [] []) phases report in
    let acted : (counted : ℕ → ℕ → Bool) (content : ℕ → ℕ → List ℕ) → IsActionsJudged case (found_with case cuts [] counted content) (acts.Kept c.in_ok-found.found) =
    λ counted content. c.in_ok-found.ensures case (found_with case cuts [] counted content) report shape in
    let k2 : KeptUpTo rules.Actions case cuts labels = first_kept first next case cuts labels shape in
    let k3 : KeptUpTo rules.Chain case cuts labels =
    step_kept next rules.Actions rules.Chain refl case cuts labels k2 (λ counted content. (acted counted content).0) in
    let found = found_before case cuts labels in
    stopped rules.Chain case found _ c.from_residual-in_err-changes.result c.from_residual-in_err-changes.ensures.1
    (k3 found.counted found.content) (c.in_err-changes.ensures case found report shape)

pub returns-in_err-ask_setup : goal.returns-in_err-ask_setup
returns-in_err-ask_setup c = λ case setting phases report.
    let cuts = c.in_ok-cuts.cuts.items in
    let labels = c.in_ok-found.found.labels.items in
    let first = c.order.ensures.first in
    let next = c.order.ensures.next in
    let shape : IsCut case.phases case.report (phases_by cuts case.report.phases) = c.in_ok-cuts.ensures case (found_before case [] []) phases report in
    let acted : (counted : ℕ → ℕ → Bool) (content : ℕ → ℕ → List ℕ) → IsActionsJudged case (found_with case cuts [] counted content) (acts.Kept c.in_ok-found.found) =
    λ counted content. c.in_ok-found.ensures case (found_with case cuts [] counted content) report shape in
    let k2 : KeptUpTo rules.Actions case cuts labels = first_kept first next case cuts labels shape in
    let k3 : KeptUpTo rules.Chain case cuts labels =
    step_kept next rules.Actions rules.Chain refl case cuts labels k2 (λ counted content. (acted counted content).0) in
    let chain : (counted : ℕ → ℕ → Bool) (content : ℕ → ℕ → List ℕ) → IsChainJudged case (found_with case cuts labels counted content) (chains.Kept c.in_ok-changes.changes) =
    λ counted content. c.in_ok-changes.ensures case (found_with case cuts labels counted content) report shape in
    let k4 : KeptUpTo rules.Setup case cuts labels =
    step_kept next rules.Chain rules.Setup refl case cuts labels k3 (λ counted content. (chain counted content).0) in
    let orders : AreOrders case.setting (change_in case.phases) labels c.in_ok-replayed.replayed.entries.entries c.in_ok-replayed.replayed.orders.items =
    subst (λ z. AreOrders z (change_in case.phases) labels c.in_ok-replayed.replayed.entries.entries c.in_ok-replayed.replayed.orders.items) (sym setting)
    (subst (λ z. AreOrders c.args.setting.now (change_in z) labels c.in_ok-replayed.replayed.entries.entries c.in_ok-replayed.replayed.orders.items) (sym phases)
    (subst (λ (z : List Label). AreOrders c.args.setting.now (change_in c.args.phases.now) z c.in_ok-replayed.replayed.entries.entries c.in_ok-replayed.replayed.orders.items)
    c.as_slice.ensures.value c.in_ok-replayed.ensures.orders)) in
    let index : (counted : ℕ → ℕ → Bool) (content : ℕ → ℕ → List ℕ) → IsIndex action_change case.report (entries_of (found_with case cuts labels counted content)) c.in_ok-found.found.actions.made =
    λ counted content. (acted counted content).1 in
    let found = found_before case cuts labels in
    stopped rules.Setup case found _ c.from_residual-in_err-ask_setup.result c.from_residual-in_err-ask_setup.ensures.1
    (k4 found.counted found.content) (c.in_err-ask_setup.ensures case found report (blocks_are case cuts c.as_slice-2.result.now c.args.report.now c.as_slice-2.ensures.value report)
    (k4 found.counted found.content) (index found.counted found.content) orders)

pub returns-in_err-ask_seen : goal.returns-in_err-ask_seen
returns-in_err-ask_seen c = λ case setting phases report.
    let cuts = c.in_ok-cuts.cuts.items in
    let labels = c.in_ok-found.found.labels.items in
    let first = c.order.ensures.first in
    let next = c.order.ensures.next in
    let shape : IsCut case.phases case.report (phases_by cuts case.report.phases) = c.in_ok-cuts.ensures case (found_before case [] []) phases report in
    let acted : (counted : ℕ → ℕ → Bool) (content : ℕ → ℕ → List ℕ) → IsActionsJudged case (found_with case cuts [] counted content) (acts.Kept c.in_ok-found.found) =
    λ counted content. c.in_ok-found.ensures case (found_with case cuts [] counted content) report shape in
    let k2 : KeptUpTo rules.Actions case cuts labels = first_kept first next case cuts labels shape in
    let k3 : KeptUpTo rules.Chain case cuts labels =
    step_kept next rules.Actions rules.Chain refl case cuts labels k2 (λ counted content. (acted counted content).0) in
    let chain : (counted : ℕ → ℕ → Bool) (content : ℕ → ℕ → List ℕ) → IsChainJudged case (found_with case cuts labels counted content) (chains.Kept c.in_ok-changes.changes) =
    λ counted content. c.in_ok-changes.ensures case (found_with case cuts labels counted content) report shape in
    let k4 : KeptUpTo rules.Setup case cuts labels =
    step_kept next rules.Chain rules.Setup refl case cuts labels k3 (λ counted content. (chain counted content).0) in
    let orders : AreOrders case.setting (change_in case.phases) labels c.in_ok-replayed.replayed.entries.entries c.in_ok-replayed.replayed.orders.items =
    subst (λ z. AreOrders z (change_in case.phases) labels c.in_ok-replayed.replayed.entries.entries c.in_ok-replayed.replayed.orders.items) (sym setting)
    (subst (λ z. AreOrders c.args.setting.now (change_in z) labels c.in_ok-replayed.replayed.entries.entries c.in_ok-replayed.replayed.orders.items) (sym phases)
    (subst (λ (z : List Label). AreOrders c.args.setting.now (change_in c.args.phases.now) z c.in_ok-replayed.replayed.entries.entries c.in_ok-replayed.replayed.orders.items)
    c.as_slice.ensures.value c.in_ok-replayed.ensures.orders)) in
    let index : (counted : ℕ → ℕ → Bool) (content : ℕ → ℕ → List ℕ) → IsIndex action_change case.report (entries_of (found_with case cuts labels counted content)) c.in_ok-found.found.actions.made =
    λ counted content. (acted counted content).1 in
    let k5 : KeptUpTo rules.Seen case cuts labels = step_kept next rules.Setup rules.Seen refl case cuts labels k4
    (λ counted content. c.in_ok-ask_setup.ensures case (found_with case cuts labels counted content) report (blocks_are case cuts c.as_slice-2.result.now c.args.report.now c.as_slice-2.ensures.value report) (k4 counted content)
    (index counted content) orders) in
    let found = found_before case cuts labels in
    stopped rules.Seen case found _ c.from_residual-in_err-ask_seen.result c.from_residual-in_err-ask_seen.ensures.1
    (k5 found.counted found.content) (c.in_err-ask_seen.ensures case found report (blocks_are case cuts c.as_slice-3.result.now c.args.report.now c.as_slice-3.ensures.value report) (k5 found.counted found.content))

pub returns-in_err-ask_verdicts : goal.returns-in_err-ask_verdicts
returns-in_err-ask_verdicts c = λ case setting phases report.
    let cuts = c.in_ok-cuts.cuts.items in
    let labels = c.in_ok-found.found.labels.items in
    let first = c.order.ensures.first in
    let next = c.order.ensures.next in
    let shape : IsCut case.phases case.report (phases_by cuts case.report.phases) = c.in_ok-cuts.ensures case (found_before case [] []) phases report in
    let acted : (counted : ℕ → ℕ → Bool) (content : ℕ → ℕ → List ℕ) → IsActionsJudged case (found_with case cuts [] counted content) (acts.Kept c.in_ok-found.found) =
    λ counted content. c.in_ok-found.ensures case (found_with case cuts [] counted content) report shape in
    let k2 : KeptUpTo rules.Actions case cuts labels = first_kept first next case cuts labels shape in
    let k3 : KeptUpTo rules.Chain case cuts labels =
    step_kept next rules.Actions rules.Chain refl case cuts labels k2 (λ counted content. (acted counted content).0) in
    let chain : (counted : ℕ → ℕ → Bool) (content : ℕ → ℕ → List ℕ) → IsChainJudged case (found_with case cuts labels counted content) (chains.Kept c.in_ok-changes.changes) =
    λ counted content. c.in_ok-changes.ensures case (found_with case cuts labels counted content) report shape in
    let k4 : KeptUpTo rules.Setup case cuts labels =
    step_kept next rules.Chain rules.Setup refl case cuts labels k3 (λ counted content. (chain counted content).0) in
    let orders : AreOrders case.setting (change_in case.phases) labels c.in_ok-replayed.replayed.entries.entries c.in_ok-replayed.replayed.orders.items =
    subst (λ z. AreOrders z (change_in case.phases) labels c.in_ok-replayed.replayed.entries.entries c.in_ok-replayed.replayed.orders.items) (sym setting)
    (subst (λ z. AreOrders c.args.setting.now (change_in z) labels c.in_ok-replayed.replayed.entries.entries c.in_ok-replayed.replayed.orders.items) (sym phases)
    (subst (λ (z : List Label). AreOrders c.args.setting.now (change_in c.args.phases.now) z c.in_ok-replayed.replayed.entries.entries c.in_ok-replayed.replayed.orders.items)
    c.as_slice.ensures.value c.in_ok-replayed.ensures.orders)) in
    let index : (counted : ℕ → ℕ → Bool) (content : ℕ → ℕ → List ℕ) → IsIndex action_change case.report (entries_of (found_with case cuts labels counted content)) c.in_ok-found.found.actions.made =
    λ counted content. (acted counted content).1 in
    let k5 : KeptUpTo rules.Seen case cuts labels = step_kept next rules.Setup rules.Seen refl case cuts labels k4
    (λ counted content. c.in_ok-ask_setup.ensures case (found_with case cuts labels counted content) report (blocks_are case cuts c.as_slice-2.result.now c.args.report.now c.as_slice-2.ensures.value report) (k4 counted content)
    (index counted content) orders) in
    let k6 : KeptUpTo rules.Verdict case cuts labels = step_kept next rules.Seen rules.Verdict refl case cuts labels k5
    (λ counted content. c.in_ok-ask_seen.ensures case (found_with case cuts labels counted content) report (blocks_are case cuts c.as_slice-3.result.now c.args.report.now c.as_slice-3.ensures.value report) (k5 counted content)) in
    let found = found_before case cuts labels in
    stopped rules.Verdict case found _ c.from_residual-in_err-ask_verdicts.result c.from_residual-in_err-ask_verdicts.ensures.1
    (k6 found.counted found.content) (c.in_err-ask_verdicts.ensures case found setting report (blocks_are case cuts c.as_slice-4.result.now c.args.report.now c.as_slice-4.ensures.value report) (k6 found.counted found.content))

pub returns-in_err-orders : goal.returns-in_err-orders
returns-in_err-orders c = λ case setting phases report.
    let cuts = c.in_ok-cuts.cuts.items in
    let labels = c.in_ok-found.found.labels.items in
    let first = c.order.ensures.first in
    let next = c.order.ensures.next in
    let shape : IsCut case.phases case.report (phases_by cuts case.report.phases) = c.in_ok-cuts.ensures case (found_before case [] []) phases report in
    let acted : (counted : ℕ → ℕ → Bool) (content : ℕ → ℕ → List ℕ) → IsActionsJudged case (found_with case cuts [] counted content) (acts.Kept c.in_ok-found.found) =
    λ counted content. c.in_ok-found.ensures case (found_with case cuts [] counted content) report shape in
    let k2 : KeptUpTo rules.Actions case cuts labels = first_kept first next case cuts labels shape in
    let k3 : KeptUpTo rules.Chain case cuts labels =
    step_kept next rules.Actions rules.Chain refl case cuts labels k2 (λ counted content. (acted counted content).0) in
    let chain : (counted : ℕ → ℕ → Bool) (content : ℕ → ℕ → List ℕ) → IsChainJudged case (found_with case cuts labels counted content) (chains.Kept c.in_ok-changes.changes) =
    λ counted content. c.in_ok-changes.ensures case (found_with case cuts labels counted content) report shape in
    let k4 : KeptUpTo rules.Setup case cuts labels =
    step_kept next rules.Chain rules.Setup refl case cuts labels k3 (λ counted content. (chain counted content).0) in
    let orders : AreOrders case.setting (change_in case.phases) labels c.in_ok-replayed.replayed.entries.entries c.in_ok-replayed.replayed.orders.items =
    subst (λ z. AreOrders z (change_in case.phases) labels c.in_ok-replayed.replayed.entries.entries c.in_ok-replayed.replayed.orders.items) (sym setting)
    (subst (λ z. AreOrders c.args.setting.now (change_in z) labels c.in_ok-replayed.replayed.entries.entries c.in_ok-replayed.replayed.orders.items) (sym phases)
    (subst (λ (z : List Label). AreOrders c.args.setting.now (change_in c.args.phases.now) z c.in_ok-replayed.replayed.entries.entries c.in_ok-replayed.replayed.orders.items)
    c.as_slice.ensures.value c.in_ok-replayed.ensures.orders)) in
    let index : (counted : ℕ → ℕ → Bool) (content : ℕ → ℕ → List ℕ) → IsIndex action_change case.report (entries_of (found_with case cuts labels counted content)) c.in_ok-found.found.actions.made =
    λ counted content. (acted counted content).1 in
    let k5 : KeptUpTo rules.Seen case cuts labels = step_kept next rules.Setup rules.Seen refl case cuts labels k4
    (λ counted content. c.in_ok-ask_setup.ensures case (found_with case cuts labels counted content) report (blocks_are case cuts c.as_slice-2.result.now c.args.report.now c.as_slice-2.ensures.value report) (k4 counted content)
    (index counted content) orders) in
    let k6 : KeptUpTo rules.Verdict case cuts labels = step_kept next rules.Seen rules.Verdict refl case cuts labels k5
    (λ counted content. c.in_ok-ask_seen.ensures case (found_with case cuts labels counted content) report (blocks_are case cuts c.as_slice-3.result.now c.args.report.now c.as_slice-3.ensures.value report) (k5 counted content)) in
    let k7 : KeptUpTo rules.Numbers case cuts labels = step_kept next rules.Verdict rules.Numbers refl case cuts labels k6
    (λ counted content. c.in_ok-ask_verdicts.ensures case (found_with case cuts labels counted content) setting report (blocks_are case cuts c.as_slice-4.result.now c.args.report.now c.as_slice-4.ensures.value report) (k6 counted content)) in
    let found = found_before case cuts labels in
    stopped rules.Numbers case found _ c.from_residual-in_err-orders.result c.from_residual-in_err-orders.ensures.1
    (k7 found.counted found.content) (c.in_err-orders.ensures case found report (blocks_are case cuts c.as_slice-5.result.now c.args.report.now c.as_slice-5.ensures.value report) (k7 found.counted found.content) orders)

pub returns : goal.returns
returns c = λ case setting phases report.
    let cuts = c.in_ok-cuts.cuts.items in
    let labels = c.in_ok-found.found.labels.items in
    let first = c.order.ensures.first in
    let next = c.order.ensures.next in
    let shape : IsCut case.phases case.report (phases_by cuts case.report.phases) = c.in_ok-cuts.ensures case (found_before case [] []) phases report in
    let acted : (counted : ℕ → ℕ → Bool) (content : ℕ → ℕ → List ℕ) → IsActionsJudged case (found_with case cuts [] counted content) (acts.Kept c.in_ok-found.found) =
    λ counted content. c.in_ok-found.ensures case (found_with case cuts [] counted content) report shape in
    let k2 : KeptUpTo rules.Actions case cuts labels = first_kept first next case cuts labels shape in
    let k3 : KeptUpTo rules.Chain case cuts labels =
    step_kept next rules.Actions rules.Chain refl case cuts labels k2 (λ counted content. (acted counted content).0) in
    let chain : (counted : ℕ → ℕ → Bool) (content : ℕ → ℕ → List ℕ) → IsChainJudged case (found_with case cuts labels counted content) (chains.Kept c.in_ok-changes.changes) =
    λ counted content. c.in_ok-changes.ensures case (found_with case cuts labels counted content) report shape in
    let k4 : KeptUpTo rules.Setup case cuts labels =
    step_kept next rules.Chain rules.Setup refl case cuts labels k3 (λ counted content. (chain counted content).0) in
    let orders : AreOrders case.setting (change_in case.phases) labels c.in_ok-replayed.replayed.entries.entries c.in_ok-replayed.replayed.orders.items =
    subst (λ z. AreOrders z (change_in case.phases) labels c.in_ok-replayed.replayed.entries.entries c.in_ok-replayed.replayed.orders.items) (sym setting)
    (subst (λ z. AreOrders c.args.setting.now (change_in z) labels c.in_ok-replayed.replayed.entries.entries c.in_ok-replayed.replayed.orders.items) (sym phases)
    (subst (λ (z : List Label). AreOrders c.args.setting.now (change_in c.args.phases.now) z c.in_ok-replayed.replayed.entries.entries c.in_ok-replayed.replayed.orders.items)
    c.as_slice.ensures.value c.in_ok-replayed.ensures.orders)) in
    let index : (counted : ℕ → ℕ → Bool) (content : ℕ → ℕ → List ℕ) → IsIndex action_change case.report (entries_of (found_with case cuts labels counted content)) c.in_ok-found.found.actions.made =
    λ counted content. (acted counted content).1 in
    let k5 : KeptUpTo rules.Seen case cuts labels = step_kept next rules.Setup rules.Seen refl case cuts labels k4
    (λ counted content. c.in_ok-ask_setup.ensures case (found_with case cuts labels counted content) report (blocks_are case cuts c.as_slice-2.result.now c.args.report.now c.as_slice-2.ensures.value report) (k4 counted content)
    (index counted content) orders) in
    let k6 : KeptUpTo rules.Verdict case cuts labels = step_kept next rules.Seen rules.Verdict refl case cuts labels k5
    (λ counted content. c.in_ok-ask_seen.ensures case (found_with case cuts labels counted content) report (blocks_are case cuts c.as_slice-3.result.now c.args.report.now c.as_slice-3.ensures.value report) (k5 counted content)) in
    let k7 : KeptUpTo rules.Numbers case cuts labels = step_kept next rules.Verdict rules.Numbers refl case cuts labels k6
    (λ counted content. c.in_ok-ask_verdicts.ensures case (found_with case cuts labels counted content) setting report (blocks_are case cuts c.as_slice-4.result.now c.args.report.now c.as_slice-4.ensures.value report) (k6 counted content)) in
    let numbered : (counted : ℕ → ℕ → Bool) (content : ℕ → ℕ → List ℕ) → IsNumbersJudged case (found_with case cuts labels counted content) (numbers.Kept c.in_ok-orders.orders) =
    λ counted content. c.in_ok-orders.ensures case (found_with case cuts labels counted content) report (blocks_are case cuts c.as_slice-5.result.now c.args.report.now c.as_slice-5.ensures.value report) (k7 counted content) orders in
    let k8 : KeptUpTo rules.Moves case cuts labels = step_kept next rules.Numbers rules.Moves refl case cuts labels k7
    (λ counted content. (numbered counted content).0) in
    let found = found_before case cuts labels in
    record {
      keep = k8;
      actions = index found.counted found.content;
      changes = (chain found.counted found.content).1;
      orders = (numbered found.counted found.content).1;
    }
