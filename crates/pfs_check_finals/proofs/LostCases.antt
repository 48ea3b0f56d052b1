-- The twelfth rule, phase by phase.
use Rattle.std.proofs.Common.{◌≡◌, ℕ, ◌+◌, ◌<◌, ◌≤◌, List, ◌++◌, drop, get_or, length, take, sym, ◌∙◌, ap, subst, arith, Some}
use Rattle.std.specs.List.{flat_map, slice_index_or}
use Rattle.pfs_classes.specs.declared.setting.Setting.{Setting}
use Rattle.pfs_journal.specs.ReportLines.{phase_lines}
use Rattle.pfs_journal.specs.declared.report.PhaseParts.{PhaseParts}
use Rattle.pfs_journal.specs.declared.report.ReportParts.{ReportParts}
use Rattle.pfs_model.specs.EntryPlaces.{Placed, in_phase, up_to_phase}
use Rattle.pfs_runs.specs.Runs.{AreFinal}
use Rattle.pfs_runs.specs.ScriptLines.{change_in}
use Rattle.pfs_check_cut.specs.CutReports.{phases_by}
use Rattle.pfs_check_cut.specs.declared.blocks.CutPhase.{CutPhase}
use Rattle.pfs_check_faults.specs.declared.rules.Rule.TheVariants as rules
use Rattle.pfs_check_faults.specs.FinalFaults.{lost_due}
use Rattle.pfs_check_faults.specs.Judgements.{IsFirstFault, KeepBefore, Keeps, LostOf}
use Rattle.pfs_check_faults.specs.ReportCases.{Case, Findings, entries_of}
use Rattle.pfs_check_orders.specs.ActionOrders.{AreOrders}
use Rattle.pfs_check_orders.specs.declared.orders.Orders.{Orders}
use Rattle.pfs_check_finals.specs.Differences.{AreComparedFrom}
use Rattle.pfs_check_finals.specs.LostCounts.{AreCounted, AreLosses, no_losses}
use Rattle.pfs_check_finals.specs.declared.losing.Losses.{Losses}
use Rattle.pfs_check_finals.proofs.EndFaults.{around, final_all, final_more, lost_wrong}
use Rattle.pfs_check_finals.proofs.LossCounts.{losses_first, losses_up, numbered_at}

-- a case of which the rule is asked
pub record IsLostCase (setting : Setting) (cuts : List CutPhase) (report : ReportParts) (orders : Orders) (case : Case) (found : Findings) : Type 0 where
  pub setting_is : case.setting ≡ setting
  pub report_is : case.report ≡ report
  pub blocks : found.blocks ≡ phases_by cuts report.phases
  pub keeps : KeepBefore rules.Lost case found
  pub orders_are : AreOrders case.setting (change_in case.phases) found.labels orders.entries.entries orders.orders.items

-- the counters that are due in the phase of a place
due_at : (setting : Setting) (cuts : List CutPhase) (report : ReportParts) (orders : Orders) (case : Case) (found : Findings) → IsLostCase setting cuts report orders case found
    → (at : ℕ) (one : PhaseParts) → at < length report.phases → one ≡ get_or report.phases at one
    → lost_due setting (change_in case.phases) found.labels (up_to_phase (at + 1) (entries_of found)) ≡ lost_due case.setting (change_in case.phases) found.labels (up_to_phase one.number (entries_of found))
due_at setting cuts report orders case found of at one low is =
    let shaped = of.keeps rules.Shape (omega arith) in
    let numbered : (get_or case.report.phases at one).number ≡ 1 + at =
    numbered_at 1 case.phases case.report.phases found.blocks shaped.phases_are at one (subst (λ (z : ReportParts). at < length z.phases) (sym of.report_is) low) in
    let number : at + 1 ≡ one.number =
    (let e : at + 1 ≡ 1 + at = omega arith in e) ∙ sym numbered ∙ ap (λ (z : ReportParts). (get_or z.phases at one).number) of.report_is ∙ ap (λ (z : PhaseParts). z.number) (sym is) in
    ap (λ z. lost_due z (change_in case.phases) found.labels (up_to_phase (at + 1) (entries_of found))) (sym of.setting_is)
    ∙ ap (λ n. lost_due case.setting (change_in case.phases) found.labels (up_to_phase n (entries_of found))) number

-- a phase whose counters are right
pub lost_more : (setting : Setting) (cuts : List CutPhase) (report : ReportParts) (orders : Orders) (case : Case) (found : Findings) → IsLostCase setting cuts report orders case found
    → (phases : List PhaseParts) → phases ≡ report.phases → (at : ℕ) (one : PhaseParts) → at < length phases → one ≡ get_or phases at one
    → AreFinal (LostOf case found) (take at phases) → lost_due setting (change_in case.phases) found.labels (up_to_phase (at + 1) (entries_of found)) ≡ one.lost
    → AreFinal (LostOf case found) (take (at + 1) phases)
lost_more setting cuts report orders case found of phases same at one low is kept right =
    final_more (LostOf case found) phases at one low is kept
    (sym right
    ∙ due_at setting cuts report orders case found of at one (subst (λ z. at < length z) same low) (is ∙ ap (λ z. get_or z at one) same))

pub lost_all : (setting : Setting) (cuts : List CutPhase) (report : ReportParts) (orders : Orders) (case : Case) (found : Findings) → IsLostCase setting cuts report orders case found
    → (phases : List PhaseParts) → phases ≡ report.phases → (at : ℕ) → length phases ≤ at → AreFinal (LostOf case found) (take at phases) → Keeps rules.Lost case found
lost_all setting cuts report orders case found of phases same at high kept =
    subst (AreFinal (LostOf case found)) (same ∙ ap (λ (z : ReportParts). z.phases) (sym of.report_is)) (final_all (LostOf case found) phases at high kept)

-- one whose counters aren't
pub lost_fails : (setting : Setting) (cuts : List CutPhase) (report : ReportParts) (orders : Orders) (case : Case) (found : Findings) → IsLostCase setting cuts report orders case found
    → (phases : List PhaseParts) → phases ≡ report.phases → (at : ℕ) (one : PhaseParts) → at < length phases → one ≡ get_or phases at one
    → (first from line : ℕ) → first ≡ 2 + length (flat_map phase_lines (take at phases)) → from + length one.lost ≡ first + length (phase_lines one)
    → AreFinal (LostOf case found) (take at phases)
    → AreComparedFrom from (lost_due setting (change_in case.phases) found.labels (up_to_phase (at + 1) (entries_of found))) one.lost (Some line)
    → IsFirstFault rules.Lost case found line
lost_fails setting cuts report orders case found of phases same at one low is first from line begins ends kept compared =
    let due = due_at setting cuts report orders case found of at one (subst (λ z. at < length z) same low) (is ∙ ap (λ z. get_or z at one) same) in
    let told = subst (λ z. AreComparedFrom from z one.lost (Some line)) due compared in
    lost_wrong case found (take at phases) (drop (at + 1) phases) one first from told.0 line
    (ap (λ (z : ReportParts). z.phases) of.report_is ∙ sym same ∙ around phases at one low is) begins ends kept told.1 told.2

-- what was lost up to a phase, and up to the next
abbrev pub AreLostUp : List Losses → Losses → ℕ → Type 0
AreLostUp counted losses at = (all : List Placed) → AreCounted counted all → AreLosses losses (up_to_phase at all)

pub up_first : (counted : List Losses) (losses : Losses) → losses ≡ slice_index_or counted 0 no_losses → AreLostUp counted losses 0
up_first counted losses is = λ all are. losses_first losses all (subst (λ z. AreLosses z (in_phase 0 all)) (sym is) (are 0))

pub up_next : (counted : List Losses) (losses more sum : Losses) (at : ℕ) → more ≡ slice_index_or counted (at + 1) no_losses
    → ((some others : List Placed) → AreLosses losses some → AreLosses more others → AreLosses sum (some ++ others)) → AreLostUp counted losses at
    → AreLostUp counted sum (at + 1)
up_next counted losses more sum at is both up = λ all are.
    losses_up sum all at (both (up_to_phase at all) (in_phase (at + 1) all) (up all are) (subst (λ z. AreLosses z (in_phase (at + 1) all)) (sym is) (are (at + 1))))
