-- What stops a rule stops the judge, and where memory runs out nothing is claimed.
use Rattle.std.proofs.Common.{◌≡◌, refl, ℕ, ◌+◌, Bool, false, List, [], sym, ◌∙◌, ap, subst, IsErrAnd, Result, Ok, Err}
use Rattle.pfs_check_faults.specs.declared.rules.Rule.{Rule}
use Rattle.pfs_board.specs.declared.view.Label.{Label}
use Rattle.pfs_journal.specs.declared.report.ReportParts.{ReportParts}
use Rattle.pfs_check_cut.specs.CutReports.{phases_by}
use Rattle.pfs_check_cut.specs.declared.blocks.CutPhase.{CutPhase}
use Rattle.pfs_check_faults.specs.Judgements.{FirstRule, IsFirstFault, IsWrong, KeepBefore, Keeps, NextRule, order}
use Rattle.pfs_check_faults.specs.declared.rules.Rule.TheVariants as rules
use Rattle.pfs_check_faults.specs.ShapeFaults.{IsCut}
use Rattle.pfs_check_faults.specs.ReportCases.{Case, Findings}
use Rattle.pfs_check_grounds.specs.RuleAnswers.{IsAsked, IsGrounded, IsStopped}
use Rattle.pfs_check_grounds.specs.declared.grounds.Grounds.{Grounds}
use Rattle.pfs_check_grounds.specs.declared.grounds.Stop.{Stop}
use Rattle.pfs_check_grounds.specs.declared.grounds.Stop.TheVariants.{NoMemory, Wrong}

pub refused : {A : Type 0} (rule : Rule) (case : Case) (found : Findings) (gives : A → Type 0) (r : Result A Stop)
    → IsErrAnd r (λ stop. stop ≡ NoMemory) → IsAsked rule case found gives r
refused rule case found gives (Ok given) is = absurd is
refused rule case found gives (Err stop) is = subst (λ z. IsAsked rule case found gives (Err z)) (sym is) tt

pub none_grounded : (case : Case) (r : Result Grounds Stop) → IsErrAnd r (λ stop. stop ≡ NoMemory) → IsGrounded case r
none_grounded case (Ok grounds) is = absurd is
none_grounded case (Err stop) is = subst (λ z. IsGrounded case (Err z)) (sym is) tt

pub stopped : (rule : Rule) (case : Case) (found : Findings) (stop : Stop) (r : Result Grounds Stop)
    → IsErrAnd r (λ given. given ≡ stop) → KeepBefore rule case found → IsStopped rule case found stop → IsGrounded case r
stopped rule case found stop (Ok grounds) is keeps asked = absurd is
stopped rule case found stop (Err given) is keeps asked = subst (λ z. IsGrounded case (Err z)) (sym is) (wrong stop asked) where
  wrong : (s : Stop) → IsStopped rule case found s → IsGrounded case (Err s)
  wrong NoMemory a = tt
  wrong (Wrong failing line) a =
      subst (λ z. IsWrong case z line) (sym a.0) (record { found = found; keeps = keeps; fault = a.1 })

-- what is found by these cuts and labels, with these contents
abbrev pub found_with : Case → List CutPhase → List Label → (ℕ → ℕ → Bool) → (ℕ → ℕ → List ℕ) → Findings
found_with case cuts labels counted content =
    record { blocks = phases_by cuts case.report.phases; labels = labels; counted = counted; content = content }

abbrev pub found_before : Case → List CutPhase → List Label → Findings
found_before case cuts labels = found_with case cuts labels (λ action row. false) (λ row version. [])

pub blocks_are : (case : Case) (cuts slice : List CutPhase) (report : ReportParts) → slice ≡ cuts → case.report ≡ report
    → phases_by cuts case.report.phases ≡ phases_by slice report.phases
blocks_are case cuts slice report is same =
    ap (λ z. phases_by z case.report.phases) (sym is) ∙ ap (λ (z : ReportParts). phases_by slice z.phases) same

-- whatever the contents, all rules before this one are kept
abbrev pub KeptUpTo : Rule → Case → List CutPhase → List Label → Type 0
KeptUpTo rule case cuts labels = (counted : ℕ → ℕ → Bool) (content : ℕ → ℕ → List ℕ)
    → KeepBefore rule case (found_with case cuts labels counted content)

pub first_kept : FirstRule → NextRule → (case : Case) (cuts : List CutPhase) (labels : List Label)
    → IsCut case.phases case.report (phases_by cuts case.report.phases) → KeptUpTo rules.Actions case cuts labels
first_kept first next case cuts labels shape = λ counted content.
    next rules.Shape rules.Actions case (found_with case cuts labels counted content) refl
    (first case (found_with case cuts labels counted content)) shape

pub step_kept : NextRule → (rule following : Rule) → order following ≡ order rule + 1 → (case : Case) (cuts : List CutPhase)
    (labels : List Label) → KeptUpTo rule case cuts labels
    → ((counted : ℕ → ℕ → Bool) (content : ℕ → ℕ → List ℕ) → Keeps rule case (found_with case cuts labels counted content))
    → KeptUpTo following case cuts labels
step_kept next rule following e case cuts labels before keeps = λ counted content.
    next rule following case (found_with case cuts labels counted content) e (before counted content) (keeps counted content)
