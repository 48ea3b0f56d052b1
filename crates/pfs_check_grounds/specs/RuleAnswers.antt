-- What it means that a rule was asked behind those before it, and what the first seven rules find.
use Rattle.std.specs.Prelude.{ℕ, ◌≡◌, Bool, List, Result, Ok, Err}
use Rattle.pfs_model.specs.Chains.{action_change, row_change}
use Rattle.pfs_model.specs.EntryPlaces.{Placed, places}
use Rattle.pfs_runs.specs.Runs.{all_blocks}
use Rattle.pfs_runs.specs.ScriptLines.{change_in}
use Rattle.pfs_check_cut.specs.CutReports.{phases_by}
use Rattle.pfs_check_faults.specs.declared.rules.Rule.{Rule}
use Rattle.pfs_check_faults.specs.declared.rules.Rule.TheVariants as rules
use Rattle.pfs_check_faults.specs.Judgements.{IsFirstFault, IsWrong, KeepBefore}
use Rattle.pfs_check_faults.specs.ReportCases.{Case, Findings}
use Rattle.pfs_check_orders.specs.ActionOrders.{AreOrders}
use Rattle.pfs_check_versions.specs.VersionRules.{IsIndex}
use Rattle.pfs_check_grounds.specs.declared.grounds.Grounds.{Grounds}
use Rattle.pfs_check_grounds.specs.declared.grounds.Stop.{Stop}
use Rattle.pfs_check_grounds.specs.declared.grounds.Stop.TheVariants.{NoMemory, Wrong}

-- It is the rule that fails, first at this line, by what was found before it; or memory ran out.
abbrev pub IsStopped : Rule → Case → Findings → Stop → Type 0
IsStopped rule case found NoMemory = Unit {0}
IsStopped rule case found (Wrong failing line) = (failing ≡ rule) × IsFirstFault rule case found line

-- a rule that was asked gives this, or it stops the judge
abbrev pub IsAsked : {A : Type 0} → Rule → Case → Findings → (A → Type 0) → Result A Stop → Type 0
IsAsked rule case found gives (Ok given) = gives given
IsAsked rule case found gives (Err stop) = IsStopped rule case found stop

-- what is found of a case, with these contents of its rows
abbrev pub found_in : Case → Grounds → (ℕ → ℕ → Bool) → (ℕ → ℕ → List ℕ) → Findings
found_in case grounds counted content = record {
  blocks = phases_by grounds.cuts.items case.report.phases;
  labels = grounds.labels.items;
  counted = counted;
  content = content;
}

abbrev pub entries_by : Case → Grounds → List Placed
entries_by case grounds = places (all_blocks (phases_by grounds.cuts.items case.report.phases))

-- The first seven rules are kept, whatever the rows are found to have; and it is known where the actions begin, where
-- the rows change, and what the actions may ask for.
pub record AreGrounds (case : Case) (grounds : Grounds) : Type 0 where
  pub keep : (counted : ℕ → ℕ → Bool) (content : ℕ → ℕ → List ℕ)
      → KeepBefore rules.Moves case (found_in case grounds counted content)
  pub actions : IsIndex action_change case.report (entries_by case grounds) grounds.actions.made
  pub changes : IsIndex row_change case.report (entries_by case grounds) grounds.changes.made
  pub orders : AreOrders case.setting (change_in case.phases) grounds.labels.items grounds.orders.entries.entries
      grounds.orders.orders.items

-- these are found; or this rule is the first that fails, and this its first line
abbrev pub IsGrounded : Case → Result Grounds Stop → Type 0
IsGrounded case (Ok grounds) = AreGrounds case grounds
IsGrounded case (Err NoMemory) = Unit {0}
IsGrounded case (Err (Wrong rule line)) = IsWrong case rule line
