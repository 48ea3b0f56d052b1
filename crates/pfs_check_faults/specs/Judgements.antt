-- The rules of a report, one by one: when each is kept, at which lines it fails, and what is judged of a report.
use Rattle.std.specs.Prelude.{ℕ, ◌≡◌, ◌↔◌, ◌+◌, ◌<◌, ◌⊎◌, List, [], Err}
use Rattle.pfs_event.specs.declared.entry.Entry.{Entry}
use Rattle.pfs_journal.specs.declared.report.PhaseParts.{PhaseParts}
use Rattle.pfs_model.specs.Actions.{AreRising, NeverFall, deeds_of, numbers_by, sets_of}
use Rattle.pfs_model.specs.ActionAsks.{AreAnswered, DoAsAsked}
use Rattle.pfs_model.specs.Chains.{AreChained, Each, action_change, row_change, word_change}
use Rattle.pfs_model.specs.Contents.{AreContents, AreFoundAsCounted}
use Rattle.pfs_model.specs.EntryPlaces.{Placed, up_to_phase}
use Rattle.pfs_model.specs.EventNumbers.{AreNumbered}
use Rattle.pfs_model.specs.Floors.{AreFloored, AreThere}
use Rattle.pfs_model.specs.Puts.{AreBrought}
use Rattle.pfs_model.specs.Rings.{AreTickets, LongRises}
use Rattle.pfs_model.specs.SetupFlags.{AreJudged}
use Rattle.pfs_runs.specs.Labels.{AreLabels, before_action}
use Rattle.pfs_runs.specs.Rules.{given_by}
use Rattle.pfs_runs.specs.Runs.{AreFinal, ArePhasesAnswered, IsRun, all_blocks}
use Rattle.pfs_runs.specs.ScriptLines.{change_in}
use Rattle.pfs_runs.specs.SelectAnswers.{Answer, IsAnswered, Selection}
use Rattle.pfs_check_faults.specs.declared.rules.Rule.{Rule}
use Rattle.pfs_check_faults.specs.declared.rules.Rule.TheVariants as rules
use Rattle.pfs_check_faults.specs.declared.rules.Judgement.{Judgement}
use Rattle.pfs_check_faults.specs.declared.rules.Judgement.TheVariants.{Good, Wrong}
use Rattle.pfs_check_faults.specs.ActionFaults.{MovesFail, NeverFallsAt, SetAsAsked, SetsFail}
use Rattle.pfs_check_faults.specs.AnswerFaults.{SomePhaseFails}
use Rattle.pfs_check_faults.specs.EntryFaults.{ActsAt, EventCauseAt, IsSlotThere, JudgesAt, LinksAt, NumbersAt, QueryCauseAt, SeesAt}
use Rattle.pfs_check_faults.specs.FinalFaults.{AreTables, LostFail, SomeEndFails, TablesFail, lost_due}
use Rattle.pfs_check_faults.specs.ReportCases.{AllHave, Case, Findings, LacksOn, entries_of, flags_in, terms_in}
use Rattle.pfs_check_faults.specs.RingFaults.{RingsFail}
use Rattle.pfs_check_faults.specs.ShapeFaults.{IsCut, report_cut}

-- the place of a rule in the order in which they are asked
abbrev pub order : Rule → ℕ
order rules.Shape = 1
order rules.Actions = 2
order rules.Chain = 3
order rules.Setup = 4
order rules.Seen = 5
order rules.Verdict = 6
order rules.Numbers = 7
order rules.Moves = 8
order rules.Rings = 9
order rules.Queries = 10
order rules.Tables = 11
order rules.Lost = 12

pub record KeepsActions (found : Findings) : Type 0 where
  pub numbers : AreChained action_change (entries_of found)
  pub rising : (session : ℕ) → AreRising (numbers_by session (entries_of found))
  pub labelled : AreLabels found.labels (entries_of found)

pub record KeepsSetup (case : Case) (found : Findings) : Type 0 where
  pub words : AreChained word_change (entries_of found)
  pub sets : NeverFall (sets_of (entries_of found))
  pub asked : SetAsAsked (terms_in case found).asked (entries_of found)

pub record KeepsSeen (found : Findings) : Type 0 where
  pub floored : AreFloored (entries_of found)
  pub there : AreThere (entries_of found)
  pub slots : Each IsSlotThere (entries_of found)

pub record KeepsNumbers (case : Case) (found : Findings) : Type 0 where
  pub numbered : AreNumbered (entries_of found)
  pub answered : AreAnswered (terms_in case found).rooms (terms_in case found).answers (entries_of found)

pub record KeepsMoves (case : Case) (found : Findings) : Type 0 where
  pub deeds : NeverFall (deeds_of (entries_of found))
  pub done : DoAsAsked (terms_in case found).asked found.counted (entries_of found)
  pub found_is : AreFoundAsCounted found.content found.counted (entries_of found)
  pub contents : AreContents (given_by (terms_in case found) (all_blocks found.blocks)) found.content (entries_of found)

pub record KeepsRings (case : Case) (found : Findings) : Type 0 where
  pub brought : AreBrought (flags_in case found) (entries_of found)
  pub ticketed : (phase kind : ℕ) → kind < 4 → AreTickets (entries_of found) phase kind
  pub risen : LongRises (entries_of found)
  pub caused : AllHave (EventCauseAt (entries_of found)) [] (entries_of found)

-- how a SELECT is answered, by these contents
abbrev pub answers_by : Case → Findings → (ℕ → ℕ → List ℕ) → Selection → List Entry → Answer → Type 0
answers_by case found content =
    IsAnswered case.setting content (flags_in case found)
    (before_action case.setting (change_in case.phases) found.labels)

pub record KeepsQueries (case : Case) (found : Findings) : Type 0 where
  pub caused : AllHave (QueryCauseAt (entries_of found)) [] (entries_of found)
  pub answered : ArePhasesAnswered (answers_by case found found.content) case.phases case.report.phases found.blocks

-- the entries of the phases up to the one that is reported
abbrev pub so_far : Findings → PhaseParts → List Placed
so_far found report = up_to_phase report.number (entries_of found)

abbrev pub TablesOf : Case → Findings → PhaseParts → Type 0
TablesOf case found report =
    AreTables case.setting found.content (flags_in case found) (so_far found report) report.tables

abbrev pub LostOf : Case → Findings → PhaseParts → Type 0
LostOf case found report =
    report.lost ≡ lost_due case.setting (change_in case.phases) found.labels (so_far found report)

-- The rule is kept, by what was found.
abbrev pub Keeps : Rule → Case → Findings → Type 0
Keeps rules.Shape case found = IsCut case.phases case.report found.blocks
Keeps rules.Actions case found = KeepsActions found
Keeps rules.Chain case found = AreChained row_change (entries_of found)
Keeps rules.Setup case found = KeepsSetup case found
Keeps rules.Seen case found = KeepsSeen found
Keeps rules.Verdict case found = AreJudged (terms_in case found).stack (flags_in case found) (entries_of found)
Keeps rules.Numbers case found = KeepsNumbers case found
Keeps rules.Moves case found = KeepsMoves case found
Keeps rules.Rings case found = KeepsRings case found
Keeps rules.Queries case found = KeepsQueries case found
Keeps rules.Tables case found = AreFinal (TablesOf case found) case.report.phases
Keeps rules.Lost case found = AreFinal (LostOf case found) case.report.phases

-- whatever the changes are said to make of the rows, so long as each makes its content of the one before
abbrev pub WithContents : Case → Findings → ((ℕ → ℕ → List ℕ) → Type 0) → Type 0
WithContents case found fact = (content : ℕ → ℕ → List ℕ)
    → AreContents (given_by (terms_in case found) (all_blocks found.blocks)) content (entries_of found) → fact content

-- The rule fails on this line, by what was found before it.
abbrev pub Fails : Rule → Case → Findings → ℕ → Type 0
Fails rules.Shape case found line = report_cut case.phases case.report ≡ Err line
Fails rules.Actions case found line = LacksOn case.report (ActsAt (entries_of found)) (entries_of found) line
Fails rules.Chain case found line = LacksOn case.report (LinksAt row_change (entries_of found)) (entries_of found) line
Fails rules.Setup case found line = SetsFail case.report (terms_in case found).asked (entries_of found) line
Fails rules.Seen case found line = LacksOn case.report (SeesAt (entries_of found)) (entries_of found) line
Fails rules.Verdict case found line =
    LacksOn case.report (JudgesAt (terms_in case found).stack (flags_in case found)) (entries_of found) line
Fails rules.Numbers case found line =
    LacksOn case.report (NumbersAt (terms_in case found).rooms (terms_in case found).answers) (entries_of found) line
Fails rules.Moves case found line =
    LacksOn case.report (NeverFallsAt (entries_of found)) (entries_of found) line
    ⊎ MovesFail case.report (given_by (terms_in case found) (all_blocks found.blocks)) (terms_in case found).asked
    (entries_of found) line
Fails rules.Rings case found line = RingsFail case.report (flags_in case found) (entries_of found) line
Fails rules.Queries case found line =
    LacksOn case.report (QueryCauseAt (entries_of found)) (entries_of found) line
    ⊎ WithContents case found (λ content.
    SomePhaseFails case.setting (answers_by case found content) case.phases case.report.phases found.blocks 2 line)
Fails rules.Tables case found line =
    WithContents case found (λ content. SomeEndFails (λ report.
    TablesFail case.setting content (flags_in case found) (so_far found report) report) case.report.phases 2 line)
Fails rules.Lost case found line =
    SomeEndFails (λ report. LostFail (lost_due case.setting (change_in case.phases) found.labels (so_far found report))
    report) case.report.phases 2 line

-- and on no line before it
pub record IsFirstFault (rule : Rule) (case : Case) (found : Findings) (line : ℕ) : Type 0 where
  pub fails : Fails rule case found line
  pub first : (other : ℕ) → other < line → Fails rule case found other → ⊥

abbrev pub KeepBefore : Rule → Case → Findings → Type 0
KeepBefore rule case found = (other : Rule) → order other < order rule → Keeps other case found

-- No rule is before the first; one that is kept behind those before it leaves all before the next one kept; and behind
-- the last one all are.
abbrev pub FirstRule : Type 0
FirstRule = (case : Case) (found : Findings) → KeepBefore rules.Shape case found

abbrev pub NextRule : Type 0
NextRule = (rule next : Rule) (case : Case) (found : Findings) → order next ≡ order rule + 1 → KeepBefore rule case found
    → Keeps rule case found → KeepBefore next case found

abbrev pub LastRule : Type 0
LastRule = (case : Case) (found : Findings) → KeepBefore rules.Lost case found → Keeps rules.Lost case found
    → (rule : Rule) → Keeps rule case found

-- All rules are kept.
pub record IsGood (case : Case) : Type 0 where
  pub found : Findings
  pub keeps : (rule : Rule) → Keeps rule case found

-- This is the first rule that isn't, and the first line at which it fails.
pub record IsWrong (case : Case) (rule : Rule) (line : ℕ) : Type 0 where
  pub found : Findings
  pub keeps : KeepBefore rule case found
  pub fault : IsFirstFault rule case found line

abbrev pub Judges : Case → Judgement → Type 0
Judges case Good = IsGood case
Judges case (Wrong rule line) = IsWrong case rule line

-- A report of the whole format is a run of its script exactly where all rules are kept.
abbrev pub RunLaw : Type 0
RunLaw = (case : Case) → IsRun case.setting case.phases case.report ↔ ((case.report.format ≡ 1) × Judges case Good)

-- a rule that is kept fails on no line
abbrev pub Excludes : Rule → Type 0
Excludes rule = (case : Case) (found : Findings) (line : ℕ) → KeepBefore rule case found → Keeps rule case found
    → Fails rule case found line → ⊥

-- A case is judged in one way.
abbrev pub OneJudgement : Type 0
OneJudgement = (case : Case) (one other : Judgement) → Judges case one → Judges case other → one ≡ other
