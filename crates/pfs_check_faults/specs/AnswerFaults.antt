-- The rule of what SELECTs read and are answered.
use Rattle.std.specs.Prelude.{ℕ, ◌≡◌, ◌+◌, ◌≤◌, ◌⊎◌, List, [], ◌∷◌, ◌++◌, length, map, Option, Some, None}
use Rattle.pfs_classes.specs.declared.setting.Setting.{Setting}
use Rattle.pfs_event.specs.declared.entry.Entry.{Entry}
use Rattle.pfs_event.specs.declared.entry.Entry.TheVariants as says
use Rattle.pfs_exec.specs.declared.query.Select.{Select}
use Rattle.pfs_journal.specs.ReportLines.{block_lines, journal_lines, phase_lines}
use Rattle.pfs_journal.specs.declared.blocks.BlockReport.{BlockReport}
use Rattle.pfs_journal.specs.declared.report.PhaseParts.{PhaseParts}
use Rattle.pfs_model.specs.EntryPlaces.{Block}
use Rattle.pfs_readsets.specs.ReadSets.{IsReadSet}
use Rattle.pfs_readsets.specs.TablePlaces.{scope_of}
use Rattle.pfs_rows.specs.declared.table.Reading.{Reading}
use Rattle.pfs_runs.specs.SelectAnswers.{Answer, Held, Selection, Stored, selections_in}
use Rattle.pfs_script.specs.declared.blocks.Block.{Block as Said}
use Rattle.pfs_script.specs.declared.blocks.Phase.{Phase}
use Rattle.pfs_session.specs.Inquiries.{reading_entry}
use Rattle.pfs_check_faults.specs.ReportCases.{AlikeUpTo}

-- The entries of a SELECT that reads the store are up to a place those of one that reads the table's read set.
pub record ReadsAlike (setting : Setting) (select : Select) (part : List Entry) (at : ℕ) : Type 0 where
  pub readings : List Reading
  pub whole : IsReadSet (scope_of setting) select.table readings
  pub number : ℕ
  pub alike : AlikeUpTo (says.Query ∷ (map reading_entry readings ++ says.Rows number ∷ [])) part at

abbrev pub ReadsUpTo : Setting → Selection → List Entry → ℕ → Type 0
ReadsUpTo setting (Stored select) part at = ReadsAlike setting select part at
ReadsUpTo setting (Held select) part at = Unit {0}

-- How many rows answer it, and these rows, are up to a place those of one that is answered rightly behind as many
-- entries; the entries and then the rows are counted.
pub record AnswersUpTo (answers : Selection → List Entry → Answer → Type 0) (selection : Selection) (part : List Entry)
    (answer : Answer) (at : ℕ) : Type 0 where
  pub due : List Entry
  pub rows : Answer
  pub right : answers selection due rows
  pub long : length due ≡ length part
  pub alike : AlikeUpTo (journal_lines due (rows ∷ [])) (journal_lines part (answer ∷ [])) at

-- It isn't so up to this line, where the line of the first entry has the number `first`: what is read up to there is no
-- read set's; or the line is that of the last entry, which says how many rows there are, or of a row.
pub record AnswerFails (setting : Setting) (answers : Selection → List Entry → Answer → Type 0) (selection : Selection)
    (part : List Entry) (answer : Answer) (first line : ℕ) : Type 0 where
  pub at : ℕ
  pub line_is : line ≡ first + at
  pub within : at ≤ length (journal_lines part (answer ∷ []))
  pub wrong : (ReadsUpTo setting selection part at → ⊥)
      ⊎ ((length part ≤ at + 1) × (AnswersUpTo answers selection part answer at → ⊥))

-- so of one of the SELECTs of a block
abbrev pub SomeAnswerFails : Setting → (Selection → List Entry → Answer → Type 0) → List (Option Selection)
    → List (List Entry) → List Answer → ℕ → ℕ → Type 0
SomeAnswerFails setting answers (None ∷ selections) (part ∷ parts) given first line =
    SomeAnswerFails setting answers selections parts given (first + length (journal_lines part [])) line
SomeAnswerFails setting answers (Some selection ∷ selections) (part ∷ parts) (answer ∷ given) first line =
    AnswerFails setting answers selection part answer first line
    ⊎ SomeAnswerFails setting answers selections parts given (first + length (journal_lines part (answer ∷ []))) line
SomeAnswerFails setting answers (Some selection ∷ selections) (part ∷ parts) [] first line = ⊥
SomeAnswerFails setting answers (selection ∷ selections) [] given first line = ⊥
SomeAnswerFails setting answers [] parts given first line = ⊥

-- of one of these blocks, where the `session` line of the first has the number `first`
abbrev pub SomeBlockFails : Setting → (Selection → List Entry → Answer → Type 0) → List Said → List BlockReport
    → List Block → ℕ → ℕ → Type 0
SomeBlockFails setting answers (said ∷ others) (report ∷ reports) (block ∷ blocks) first line =
    SomeAnswerFails setting answers (selections_in said) block.parts report.answers (first + 1) line
    ⊎ SomeBlockFails setting answers others reports blocks (first + length (block_lines report)) line
SomeBlockFails setting answers _ _ _ first line = ⊥

-- of one of these phases, where the `phase` line of the first has the number `first`
abbrev pub SomePhaseFails : Setting → (Selection → List Entry → Answer → Type 0) → List Phase → List PhaseParts
    → List (List Block) → ℕ → ℕ → Type 0
SomePhaseFails setting answers (phase ∷ phases) (report ∷ reports) (blocks ∷ others) first line =
    SomeBlockFails setting answers phase.blocks report.blocks blocks (first + 1) line
    ⊎ SomePhaseFails setting answers phases reports others (first + length (phase_lines report)) line
SomePhaseFails setting answers _ _ _ first line = ⊥
