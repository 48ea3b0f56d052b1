-- What it means that the fourth rule was asked of a report.
use Rattle.std.specs.Prelude.{ℕ, suc, ◌≡◌, ◌<◌, ◌≤◌, ◌==◌, nat_le, cond, List, length, map, slice_get, Option, Some, None}
use Rattle.std.specs.BTreeMap.{BTreeMap}
use Rattle.pfs_event.specs.declared.entry.Entry.{Entry}
use Rattle.pfs_journal.specs.declared.report.ReportParts.{ReportParts}
use Rattle.pfs_model.specs.ActionAsks.{Asked, Flagging, of_action}
use Rattle.pfs_model.specs.Actions.{settings_of}
use Rattle.pfs_model.specs.Chains.{AreChained, action_change, each_of, times}
use Rattle.pfs_model.specs.EntryPlaces.{Placed}
use Rattle.pfs_check_faults.specs.declared.rules.Rule.TheVariants as rules
use Rattle.pfs_check_faults.specs.ActionFaults.{SetsFail, sets_due}
use Rattle.pfs_check_faults.specs.Judgements.{IsFirstFault, Keeps}
use Rattle.pfs_check_faults.specs.ReportCases.{Case, Findings, entries_of}
use Rattle.pfs_check_orders.specs.ActionOrders.{entries_in}
use Rattle.pfs_check_orders.specs.declared.orders.Order.{Order}
use Rattle.pfs_check_versions.specs.VersionRules.{IsIndex}
use Rattle.pfs_check_versions.specs.declared.judging.Versions.{Versions}
use Rattle.pfs_check_setup.specs.DueSets.{AreAskedFor, dues_by, is_set_of}
use Rattle.pfs_check_setup.specs.PrintedActions.{ArePrinted, setting_by}
use Rattle.pfs_check_setup.specs.declared.judging.SetupRule.{SetupRule}
use Rattle.pfs_check_setup.specs.declared.judging.SetupRule.TheVariants.{Kept, Wrong}
use Rattle.pfs_check_setup.specs.declared.printed.PrintedActions.{PrintedActions}

-- it is known where each action begins
abbrev pub AreFoundIn : Case → Findings → Versions → Type 0
AreFoundIn case found actions = IsIndex action_change case.report (entries_of found) actions.made

-- the rule is kept, or this is the first line at which it fails
abbrev pub IsSetupJudged : Case → Findings → SetupRule → Type 0
IsSetupJudged case found Kept = Keeps rules.Setup case found
IsSetupJudged case found (Wrong line) = IsFirstFault rules.Setup case found line

-- what is known of the actions of a report: what they print, and where each begins
pub record KnowsActions (report : ReportParts) (all : List Placed) (printed : PrintedActions) (actions : Versions) : Type
    0 where
  pub printed_are : ArePrinted all printed
  pub index : IsIndex action_change report all actions.made
  pub chained : AreChained action_change all

-- the order of an action names the entries that ask for its sets
pub record IsOrdered (asked : ℕ → Asked) (entries : List Entry) (order : Order) (before : ℕ) : Type 0 where
  pub within : order.end ≤ length entries
  pub dues : (counts : BTreeMap ℕ ℕ) → AreAskedFor asked counts before
      → map (setting_by (suc before)) (dues_by counts (entries_in entries order)) ≡ sets_due asked (suc before)
  pub words : (word : ℕ) → times (is_set_of word) (entries_in entries order)
      ≡ times (λ (one : Flagging). one.word == word) (asked (suc before)).sets

-- so that of each of them, and there are as many as the report has actions
pub record AreOrdered (asked : ℕ → Asked) (all : List Placed) (entries : List Entry) (orders : List Order) : Type 0
  where
    pub count : length orders ≡ length (each_of action_change all)
    pub each : (before : ℕ) (order : Order) → slice_get orders before ≡ Some order
        → IsOrdered asked entries order before

-- this is the first line at which the sets of one of these actions fail
pub record FailsFirst (report : ReportParts) (asked : ℕ → Asked) (all : List Placed) (mine : ℕ → Type 0) (line : ℕ)
    : Type 0 where
  pub fails : SetsFail report asked all line
  pub first : (other : ℕ) → other < line → (fault : SetsFail report asked all other) → mine fault.number → ⊥

-- the sets of an action are those that are due, or this is the first line at which they fail
abbrev pub IsActionAsked : ReportParts → (ℕ → Asked) → List Placed → ℕ → Option ℕ → Type 0
IsActionAsked report asked all number None = sets_due asked number ≡ settings_of (of_action number all)
IsActionAsked report asked all number (Some line) = FailsFirst report asked all (λ other. other ≡ number) line

-- so of all actions from 1 up to one
abbrev pub AreActionsAsked : ReportParts → (ℕ → Asked) → List Placed → ℕ → Option ℕ → Type 0
AreActionsAsked report asked all count None = (number : ℕ) → 0 < number → number ≤ count
    → sets_due asked number ≡ settings_of (of_action number all)
AreActionsAsked report asked all count (Some line) = FailsFirst report asked all (λ number. number ≤ count) line

-- the lower of two lines, where they are some
abbrev pub lower_line : Option ℕ → Option ℕ → Option ℕ
lower_line None other = other
lower_line (Some one) None = Some one
lower_line (Some one) (Some other) = Some (cond (nat_le one other) one other)
