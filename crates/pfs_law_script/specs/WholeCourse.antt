-- What sessions did at all blocks of a script, with a report that tells of it, is a run of the script.
use Rattle.std.specs.Prelude.{ℕ, ◌≡◌, Bool, List}
use Rattle.pfs_admin.specs.OpeningState.{opening_flags}
use Rattle.pfs_board.specs.declared.view.Label.{Label}
use Rattle.pfs_law_plain.specs.ActionFolds.{AllConnectFirst}
use Rattle.pfs_law_plain.specs.PlainJournals.{printed}
use Rattle.pfs_law_plain.specs.RunRules.{journals_of, entries_of, labels_of, contents_of}
use Rattle.pfs_law_plain.specs.ShownAnswers.{IsShownIn}
use Rattle.pfs_law_plain.specs.Spells.{Spell, AreSpells, calls_of, stints_of}
use Rattle.pfs_law_session.specs.Amounts.{AllFacts, at_first}
use Rattle.pfs_law_session.specs.JournalLaws.{AllLoadsAgree}
use Rattle.pfs_law_session.specs.Stints.{parts_by}
use Rattle.pfs_law_session.specs.Takes.{all_taken, counted_by}
use Rattle.pfs_classes.specs.declared.setting.Setting.{Setting}
use Rattle.pfs_journal.specs.declared.report.PhaseParts.{PhaseParts}
use Rattle.pfs_journal.specs.declared.report.ReportParts.{ReportParts}
use Rattle.pfs_levels.specs.PlainStore.{AllAnswer}
use Rattle.pfs_matching.specs.ObjectRules.{opening_objects}
use Rattle.pfs_model.specs.Chains.{Each}
use Rattle.pfs_model.specs.EntryPlaces.{Placed, up_to_phase}
use Rattle.pfs_model.specs.PlainAgreement.{IsPlain}
use Rattle.pfs_runs.specs.PhaseFinals.{IsFinal}
use Rattle.pfs_runs.specs.Labels.{AreLabels, terms_of}
use Rattle.pfs_runs.specs.ScriptLines.{change_in, facts_in}
use Rattle.pfs_runs.specs.Rules.{AreRules, flags_by}
use Rattle.pfs_runs.specs.Runs.{AreFinal, IsRun, all_blocks}
use Rattle.pfs_script.specs.declared.blocks.Phase.{Phase}
use Rattle.pfs_law_script.specs.Course.{AreSpellsOf, IsCourse, numbered}
use Rattle.pfs_law_script.specs.ReportSpells.{ArePhasesTold}

-- What is to hold of the spells at a script's blocks, however their store is kept, by these labels and contents: the
-- labels are those of the printed actions, the journals keep the rules of a run, each part loaded the printed flags,
-- and what it answered its journal shows.
pub record AreKept (setting : Setting) (phases : List Phase) (labels : List Label) (counted : ℕ → ℕ → Bool)
    (content : ℕ → ℕ → List ℕ) (spells : List Spell) : Type 0 where
  pub labelled : AreLabels labels (entries_of spells)
  pub rules : AreRules (terms_of setting (change_in phases) (facts_in phases) labels)
      counted content (journals_of spells)
  pub loads : Each (λ stint. AllLoadsAgree (printed (opening_flags setting opening_objects) (entries_of spells))
      stint.parts) (stints_of spells)
  pub shown : Each (IsShownIn setting (change_in phases) (facts_in phases) labels content spells) spells

-- a course over all blocks whose calls a plain store answered gives it, by that store's labels and contents; and each
-- line agrees with those before it
abbrev pub WholeLaw : Type 0
WholeLaw = (setting : Setting) (phases : List Phase) (depths : ℕ → ℕ) (spells : List Spell)
    → IsCourse setting (change_in phases) depths (numbered 1 phases) spells
    → AllAnswer (opening_flags setting opening_objects) (calls_of spells)
    → AreKept setting phases (labels_of spells) (counted_by (contents_of spells) (all_taken (stints_of spells)))
    (contents_of spells) spells × IsPlain (entries_of spells)

-- the facts of their events are those that the script says
abbrev pub FactsLaw : Type 0
FactsLaw = (setting : Setting) (phases : List Phase) (depths : ℕ → ℕ) (spells : List Spell)
    → AreSpells setting.limits.statement_stack depths spells → AreSpellsOf (numbered 1 phases) spells
    → (session : ℕ) → AllFacts (facts_in phases session) at_first (parts_by session (stints_of spells))

-- what stands under the end of a phase is what these entries make of it
abbrev pub IsFinalBy : Setting → List Phase → List Label → (ℕ → ℕ → List ℕ) → List Placed → PhaseParts → Type 0
IsFinalBy setting phases labels content all phase =
    IsFinal setting (change_in phases) labels content
    (flags_by (terms_of setting (change_in phases) (facts_in phases) labels) all)
    (up_to_phase phase.number all) phase

-- a run of the script whose journals are those of the spells
pub record IsRunOf (setting : Setting) (phases : List Phase) (report : ReportParts) (spells : List Spell) : Type 0 where
  pub run : IsRun setting phases report
  pub journals : all_blocks run.blocks ≡ journals_of spells

-- with what stands under the ends of its phases, a report that tells of such spells is a run
abbrev pub RunLaw : Type 0
RunLaw = (setting : Setting) (phases : List Phase) (report : ReportParts) (depths : ℕ → ℕ) (labels : List Label)
    (counted : ℕ → ℕ → Bool) (content : ℕ → ℕ → List ℕ) (spells : List Spell)
    → AreSpells setting.limits.statement_stack depths spells → AllConnectFirst spells
    → AreSpellsOf (numbered 1 phases) spells → AreKept setting phases labels counted content spells
    → ArePhasesTold setting 1 phases report.phases spells → report.format ≡ 1
    → AreFinal (IsFinalBy setting phases labels content (entries_of spells)) report.phases
    → IsRunOf setting phases report spells
