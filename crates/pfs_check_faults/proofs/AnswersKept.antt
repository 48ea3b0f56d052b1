-- Where SELECTs are answered and tables are final, no line of theirs is wrong.
use Rattle.std.proofs.Common.{refl, ℕ, ◌+◌, ◌≤◌, ◌⊎◌, inl, inr, List, [], ◌∷◌, length, take, Option, Some, None, sym, ap}
use Rattle.pfs_classes.specs.declared.setting.Setting.{Setting}
use Rattle.pfs_event.specs.declared.entry.Entry.{Entry}
use Rattle.pfs_journal.specs.ReportLines.{block_lines, journal_lines, phase_lines}
use Rattle.pfs_journal.specs.declared.blocks.BlockReport.{BlockReport}
use Rattle.pfs_journal.specs.declared.report.PhaseParts.{PhaseParts}
use Rattle.pfs_model.specs.EntryPlaces.{Block}
use Rattle.pfs_admin.specs.AdministrationStates.{State}
use Rattle.pfs_runs.specs.Runs.{AreBlocksAnswered, AreFinal, ArePhasesAnswered}
use Rattle.pfs_runs.specs.SelectAnswers.{Answer, AreAnswers, Held, IsAnswered, Selection, Stored, selections_in}
use Rattle.pfs_script.specs.declared.blocks.Block.{Block as Said}
use Rattle.pfs_script.specs.declared.blocks.Phase.{Phase}
use Rattle.pfs_check_faults.specs.AnswerFaults.{AnswerFails, AnswersUpTo, ReadsUpTo, SomeAnswerFails, SomeBlockFails, SomePhaseFails}
use Rattle.pfs_check_faults.specs.FinalFaults.{SomeEndFails}

-- a right answer reads as is asked
abbrev pub ReadsRight : Setting → (Selection → List Entry → Answer → Type 0) → Type 0
ReadsRight setting answers = (selection : Selection) (part : List Entry) (answer : Answer) → answers selection part answer
    → (at : ℕ) → ReadsUpTo setting selection part at

pub answered_reads : (setting : Setting) (content : ℕ → ℕ → List ℕ) (flags : ℕ → ℕ → ℕ) (before : ℕ → State)
    → ReadsRight setting (IsAnswered setting content flags before)
answered_reads setting content flags before (Stored select) part answer h at =
    record { readings = h.readings; whole = h.whole; number = length answer; alike = ap (take (at + 1)) (sym h.told) }
answered_reads setting content flags before (Held select) part answer h at = tt

answer_right : (setting : Setting) (answers : Selection → List Entry → Answer → Type 0) → ReadsRight setting answers
    → (selection : Selection) (part : List Entry) (answer : Answer) (first line : ℕ) → answers selection part answer
    → AnswerFails setting answers selection part answer first line → ⊥
answer_right setting answers reads selection part answer first line h fail = at fail.wrong where
  at : (ReadsUpTo setting selection part fail.at → ⊥)
      ⊎ ((length part ≤ fail.at + 1) × (AnswersUpTo answers selection part answer fail.at → ⊥)) → ⊥
  at (inl never) = never (reads selection part answer h fail.at)
  at (inr never) = never.1 (record { due = part; rows = answer; right = h; long = refl; alike = refl })

answers_right : (setting : Setting) (answers : Selection → List Entry → Answer → Type 0) → ReadsRight setting answers
    → (selections : List (Option Selection)) (parts : List (List Entry)) (given : List Answer) (first line : ℕ)
    → AreAnswers answers selections parts given → SomeAnswerFails setting answers selections parts given first line → ⊥
answers_right setting answers reads [] parts given first line h f = f
answers_right setting answers reads (None ∷ selections) [] given first line h f = f
answers_right setting answers reads (Some selection ∷ selections) [] given first line h f = f
answers_right setting answers reads (None ∷ selections) (part ∷ parts) given first line h f =
    answers_right setting answers reads selections parts given (first + length (journal_lines part [])) line h f
answers_right setting answers reads (Some selection ∷ selections) (part ∷ parts) [] first line h f = f
answers_right setting answers reads (Some selection ∷ selections) (part ∷ parts) (answer ∷ given) first line h (inl f) =
    answer_right setting answers reads selection part answer first line h.0 f
answers_right setting answers reads (Some selection ∷ selections) (part ∷ parts) (answer ∷ given) first line h (inr f) =
    answers_right setting answers reads selections parts given (first + length (journal_lines part (answer ∷ []))) line h.1 f

blocks_right : (setting : Setting) (answers : Selection → List Entry → Answer → Type 0) → ReadsRight setting answers
    → (saids : List Said) (reports : List BlockReport) (blocks : List Block) (first line : ℕ)
    → AreBlocksAnswered answers saids reports blocks → SomeBlockFails setting answers saids reports blocks first line → ⊥
blocks_right setting answers reads (said ∷ others) (report ∷ reports) (block ∷ blocks) first line h (inl f) =
    answers_right setting answers reads (selections_in said) block.parts report.answers (first + 1) line h.0 f
blocks_right setting answers reads (said ∷ others) (report ∷ reports) (block ∷ blocks) first line h (inr f) =
    blocks_right setting answers reads others reports blocks (first + length (block_lines report)) line h.1 f
blocks_right setting answers reads [] reports blocks first line h f = f
blocks_right setting answers reads (said ∷ others) [] blocks first line h f = f
blocks_right setting answers reads (said ∷ others) (report ∷ reports) [] first line h f = f

pub phases_right : (setting : Setting) (answers : Selection → List Entry → Answer → Type 0) → ReadsRight setting answers
    → (phases : List Phase) (reports : List PhaseParts) (blocks : List (List Block)) (first line : ℕ)
    → ArePhasesAnswered answers phases reports blocks → SomePhaseFails setting answers phases reports blocks first line → ⊥
phases_right setting answers reads (phase ∷ phases) (report ∷ reports) (blocks ∷ others) first line h (inl f) =
    blocks_right setting answers reads phase.blocks report.blocks blocks (first + 1) line h.0 f
phases_right setting answers reads (phase ∷ phases) (report ∷ reports) (blocks ∷ others) first line h (inr f) =
    phases_right setting answers reads phases reports others (first + length (phase_lines report)) line h.1 f
phases_right setting answers reads [] reports blocks first line h f = f
phases_right setting answers reads (phase ∷ phases) [] blocks first line h f = f
phases_right setting answers reads (phase ∷ phases) (report ∷ reports) [] first line h f = f

pub ends_right : (right : PhaseParts → Type 0) (fails : PhaseParts → ℕ → ℕ → Type 0)
    → ((report : PhaseParts) (first line : ℕ) → right report → fails report first line → ⊥)
    → (reports : List PhaseParts) (first line : ℕ) → AreFinal right reports → SomeEndFails fails reports first line → ⊥
ends_right right fails never [] first line h f = f
ends_right right fails never (report ∷ reports) first line h (inl f) = never report first line h.0 f
ends_right right fails never (report ∷ reports) first line h (inr f) =
    ends_right right fails never reports (first + length (phase_lines report)) line h.1 f
