-- When a report is a run of a script.
use Rattle.std.specs.Prelude.{ℕ, ◌≡◌, ◌+◌, Bool, List, [], ◌∷◌, ◌++◌}
use Rattle.pfs_board.specs.declared.view.Label.{Label}
use Rattle.pfs_classes.specs.declared.setting.Setting.{Setting}
use Rattle.pfs_event.specs.declared.entry.Entry.{Entry}
use Rattle.pfs_journal.specs.declared.blocks.BlockReport.{BlockReport}
use Rattle.pfs_journal.specs.declared.report.PhaseParts.{PhaseParts}
use Rattle.pfs_journal.specs.declared.report.ReportParts.{ReportParts}
use Rattle.pfs_model.specs.JournalCuts.{joined}
use Rattle.pfs_model.specs.EntryPlaces.{Block, places, up_to_phase}
use Rattle.pfs_model.specs.PlainAgreement.{IsPlain}
use Rattle.pfs_model.specs.Puts.{AreBrought}
use Rattle.pfs_script.specs.declared.blocks.Block.{Block as Said}
use Rattle.pfs_script.specs.declared.blocks.Phase.{Phase}
use Rattle.pfs_runs.specs.SelectAnswers.{Answer, Selection, AreAnswers, IsAnswered, selections_in}
use Rattle.pfs_runs.specs.PhaseFinals.{IsFinal}
use Rattle.pfs_runs.specs.Labels.{AreLabels, before_action, terms_of}
use Rattle.pfs_runs.specs.ScriptLines.{lines_in, change_in, facts_in}
use Rattle.pfs_runs.specs.Rules.{AreRules, flags_by}

-- A block of a report is that of the script: of the same session, its journal cut by the block's lines.
pub record IsBlockOf (phase : ℕ) (said : Said) (report : BlockReport) (block : Block) : Type 0 where
  pub phase_is : block.phase ≡ phase
  pub session : block.session ≡ said.session
  pub reported : report.session ≡ said.session
  pub lines : block.lines ≡ lines_in said
  pub entries : joined block.parts ≡ report.entries

abbrev pub AreBlocksOf : ℕ → List Said → List BlockReport → List Block → Type 0
AreBlocksOf phase [] [] [] = Unit {0}
AreBlocksOf phase (said ∷ others) (report ∷ reports) (block ∷ blocks) =
    IsBlockOf phase said report block × AreBlocksOf phase others reports blocks
AreBlocksOf phase _ _ _ = ⊥

-- the phases are numbered from this one on, each with the script's blocks in their order
abbrev pub ArePhasesOf : ℕ → List Phase → List PhaseParts → List (List Block) → Type 0
ArePhasesOf number [] [] [] = Unit {0}
ArePhasesOf number (phase ∷ phases) (report ∷ reports) (blocks ∷ others) =
    (report.number ≡ number) × AreBlocksOf number phase.blocks report.blocks blocks
    × ArePhasesOf (number + 1) phases reports others
ArePhasesOf number _ _ _ = ⊥

-- the answers of each block are those of its SELECTs, as is asked of an answer
abbrev pub AreBlocksAnswered : (Selection → List Entry → Answer → Type 0) → List Said → List BlockReport → List Block
    → Type 0
AreBlocksAnswered answers [] [] [] = Unit {0}
AreBlocksAnswered answers (said ∷ others) (report ∷ reports) (block ∷ blocks) =
    AreAnswers answers (selections_in said) block.parts report.answers × AreBlocksAnswered answers others reports blocks
AreBlocksAnswered answers _ _ _ = ⊥

abbrev pub ArePhasesAnswered : (Selection → List Entry → Answer → Type 0) → List Phase → List PhaseParts
    → List (List Block) → Type 0
ArePhasesAnswered answers [] [] [] = Unit {0}
ArePhasesAnswered answers (phase ∷ phases) (report ∷ reports) (blocks ∷ others) =
    AreBlocksAnswered answers phase.blocks report.blocks blocks × ArePhasesAnswered answers phases reports others
ArePhasesAnswered answers _ _ _ = ⊥

-- the blocks of all phases
abbrev pub all_blocks : List (List Block) → List Block
all_blocks [] = []
all_blocks (blocks ∷ others) = blocks ++ all_blocks others

abbrev pub AreFinal : (PhaseParts → Type 0) → List PhaseParts → Type 0
AreFinal final [] = Unit {0}
AreFinal final (report ∷ reports) = final report × AreFinal final reports

-- The report's phases and blocks are the script's; its journals keep the rules of a run, by the actions that the
-- script's lines ask for and the facts that it says of their events; each event is brought to its summary row, a
-- digested statement to the row of its digest too, and to the places of rings that it is offered to; each SELECT is
-- answered by what it read, or by what the administration holds at its action; and under each phase's end stands what
-- the journals so far make of rows, words and counters. Its format is that of a whole report.
pub record IsRun (setting : Setting) (phases : List Phase) (report : ReportParts) : Type 0 where
  pub format : report.format ≡ 1
  pub blocks : List (List Block)
  pub labels : List Label
  pub counted : ℕ → ℕ → Bool
  pub content : ℕ → ℕ → List ℕ
  pub phases_are : ArePhasesOf 1 phases report.phases blocks
  pub labelled : AreLabels labels (places (all_blocks blocks))
  pub rules : AreRules (terms_of setting (change_in phases) (facts_in phases) labels)
      counted content (all_blocks blocks)
  pub brought : AreBrought (flags_by (terms_of setting (change_in phases) (facts_in phases) labels)
      (places (all_blocks blocks))) (places (all_blocks blocks))
  pub answered : ArePhasesAnswered (IsAnswered setting content
      (flags_by (terms_of setting (change_in phases) (facts_in phases) labels) (places (all_blocks blocks)))
      (before_action setting (change_in phases) labels)) phases report.phases blocks
  pub finals : AreFinal (λ (phase : PhaseParts). IsFinal setting (change_in phases) labels
      content (flags_by (terms_of setting (change_in phases) (facts_in phases) labels)
      (places (all_blocks blocks))) (up_to_phase phase.number (places (all_blocks blocks))) phase) report.phases

-- and a plain one, where each line goes by those before it
pub record IsPlainRun (setting : Setting) (phases : List Phase) (report : ReportParts) : Type 0 where
  pub run : IsRun setting phases report
  pub plain : IsPlain (places (all_blocks run.blocks))
