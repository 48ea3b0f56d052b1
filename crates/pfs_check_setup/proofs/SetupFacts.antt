-- The fourth rule of a report.
use Rattle.std.proofs.Common.{◌≡◌, refl, ℕ, ◌<◌, ◌≤◌, Bool, true, false, nat_le, length, sym, ◌∙◌, ap, subst, arith, Some, None}
use Rattle.std.proofs.lemmas.Bool.Decides.{nat_tests}
use Rattle.pfs_journal.specs.declared.report.ReportParts.{ReportParts}
use Rattle.pfs_model.specs.ActionAsks.{of_action}
use Rattle.pfs_model.specs.Actions.{settings_of}
use Rattle.pfs_model.specs.Chains.{AreChained, Each, action_change, each_of, is_of, times}
use Rattle.pfs_runs.specs.Runs.{all_blocks}
use Rattle.pfs_runs.specs.ScriptLines.{change_in}
use Rattle.pfs_check_faults.proofs.ChainFacts.{all_phases, top}
use Rattle.pfs_check_faults.proofs.SetsOnce.{sets_once}
use Rattle.pfs_check_faults.specs.declared.rules.Rule.TheVariants as rules
use Rattle.pfs_check_faults.specs.ActionFaults.{SetsFail, sets_due}
use Rattle.pfs_check_faults.specs.Judgements.{IsFirstFault, KeepBefore, Keeps}
use Rattle.pfs_check_faults.specs.ReportCases.{Case, Findings, entries_of, terms_in}
use Rattle.pfs_check_numbers.specs.OrderAnswers.{AreOrdersOf}
use Rattle.pfs_check_orders.specs.declared.orders.Orders.{Orders}
use Rattle.pfs_check_setup.specs.SetupRules.{AreActionsAsked, AreOrdered}
use Rattle.pfs_check_setup.proofs.ActionPhases.{acts_up_to, none_settings, under_top}
use Rattle.pfs_check_setup.proofs.BegunActions.{HasBegun, all_begun}
use Rattle.pfs_check_setup.proofs.DueFacts.{none_asked, order_at}
use Rattle.pfs_check_setup.proofs.FaultFacts.{all_actions, fails_within}
use Rattle.pfs_check_setup.proofs.SetLaw.{AreDue, chained, never_fall, set_as_asked}

pub actions_chained : (case : Case) (found : Findings) → KeepBefore rules.Setup case found → AreChained action_change (entries_of found)
actions_chained case found keeps = (keeps rules.Actions (omega arith)).numbers

-- there are as many orders as actions
pub are_ordered : (case : Case) (found : Findings) (orders : Orders) → KeepBefore rules.Setup case found → AreOrdersOf case found orders
    → AreOrdered (terms_in case found).asked (entries_of found) orders.entries.entries orders.orders.items
are_ordered case found orders keeps are = record {
  count = are.count ∙ (keeps rules.Actions (omega arith)).labelled.few;
  each = order_at case.setting (change_in case.phases) found.labels orders.entries.entries orders.orders.items are;
}

-- the sets of all actions are those that are due
are_due : (case : Case) (found : Findings) (orders : Orders) (report : ReportParts) → KeepBefore rules.Setup case found → AreOrdersOf case found orders
    → AreActionsAsked report (terms_in case found).asked (entries_of found) (length orders.orders.items) None
    → AreDue (terms_in case found).asked (entries_of found)
are_due case found orders report keeps are asked = record {
  due = due;
  once = sets_once case.setting (change_in case.phases) found.labels;
  begun = begun;
  actions = actions_chained case found keeps;
} where
  begun : Each (HasBegun (entries_of found)) (entries_of found)
  begun = all_begun (all_blocks found.blocks) (keeps rules.Shape (omega arith)).shaped

  few : length found.labels ≡ length (each_of action_change (entries_of found))
  few = (keeps rules.Actions (omega arith)).labelled.few

  all_count : acts_up_to (top (entries_of found)) (entries_of found) ≡ length found.labels
  all_count =
      ap (λ z. times (is_of 0) (each_of action_change z)) (all_phases (entries_of found)) ∙ all_actions (entries_of found) ∙ sym few

  due : (number : ℕ) → 0 < number → sets_due (terms_in case found).asked number ≡ settings_of (of_action number (entries_of found))
  due number positive = at (nat_le number (length orders.orders.items)) refl where
    at : (b : Bool) → nat_le number (length orders.orders.items) ≡ b
        → sets_due (terms_in case found).asked number ≡ settings_of (of_action number (entries_of found))
    at true e = asked number positive (low e) where
      low : nat_le number (length orders.orders.items) ≡ true → number ≤ length orders.orders.items
      low e = grind (arith, nat_tests)
    at false e =
        let high : length found.labels < number = omega (arith, above e, are.count) in
        none_asked case.setting (change_in case.phases) found.labels number high
        ∙ sym (none_settings (entries_of found) number (entries_of found) (actions_chained case found keeps) begun (omega (arith, high, all_count))
        (under_top (entries_of found))) where
          above : nat_le number (length orders.orders.items) ≡ false → length orders.orders.items < number
          above e = grind (arith, nat_tests)

pub setup_kept : (case : Case) (found : Findings) (orders : Orders) (report : ReportParts) → KeepBefore rules.Setup case found → AreOrdersOf case found orders
    → AreActionsAsked report (terms_in case found).asked (entries_of found) (length orders.orders.items) None → Keeps rules.Setup case found
setup_kept case found orders report keeps are asked =
    let all_due : AreDue (terms_in case found).asked (entries_of found) = are_due case found orders report keeps are asked in
    record {
      words = chained (terms_in case found).asked (entries_of found) all_due;
      sets = never_fall (terms_in case found).asked (entries_of found) all_due;
      asked = set_as_asked (terms_in case found).asked (entries_of found) all_due;
    }

pub setup_wrong : (case : Case) (found : Findings) (orders : Orders) (report : ReportParts) (line : ℕ) → case.report ≡ report
    → KeepBefore rules.Setup case found → AreOrdersOf case found orders
    → AreActionsAsked report (terms_in case found).asked (entries_of found) (length orders.orders.items) (Some line)
    → IsFirstFault rules.Setup case found line
setup_wrong case found orders report line same keeps are asked = record {
  fails = subst (λ z. SetsFail z (terms_in case found).asked (entries_of found) line) (sym same) asked.fails;
  first = λ other less fault. first other less (subst (λ z. SetsFail z (terms_in case found).asked (entries_of found) other) same fault);
} where
  first : (other : ℕ) → other < line → SetsFail report (terms_in case found).asked (entries_of found) other → ⊥
  first other less fault =
      let few : length orders.orders.items ≡ length (each_of action_change (entries_of found)) =
      are.count ∙ (keeps rules.Actions (omega arith)).labelled.few in
      asked.first other less fault
      (omega (arith, few, fails_within report (terms_in case found).asked (entries_of found) other (actions_chained case found keeps) fault))
