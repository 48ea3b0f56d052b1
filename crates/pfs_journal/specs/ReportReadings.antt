-- What is read of a report's bytes.
use Rattle.std.specs.Prelude.{ℕ, ◌≡◌, ◌<◌, ◌≤◌, List, [], ◌∷◌, ◌++◌, length}
use Rattle.pfs_journal.specs.declared.line.Line.{Line}
use Rattle.pfs_journal.specs.declared.line.Line.TheVariants.{Final}
use Rattle.pfs_journal.specs.declared.blocks.BlockReport.{BlockReport}
use Rattle.pfs_journal.specs.declared.report.PhaseParts.{PhaseParts}
use Rattle.std.specs.Prelude.{Option, option_to_list, Result, Ok, Err}
use Rattle.pfs_journal.specs.declared.reading.ReadStop.{ReadStop}
use Rattle.pfs_journal.specs.declared.reading.ReadStop.TheVariants.{Bad, NoMemory}
use Rattle.std.specs.List.{All, flat_map}
use Rattle.pfs_event.specs.declared.entry.Entry.{Entry}
use Rattle.pfs_text.specs.declared.values.RowValue.{RowValue}
use Rattle.pfs_journal.specs.SingleLines.{line_text, IsLine}
use Rattle.pfs_journal.specs.Reports.{IsRow, IsPhase, AreAnswered, rows_asked, sizes_of}
use Rattle.pfs_journal.specs.Spelling.{row_text, journal_text, final_text}

-- where bytes are told to be no report, this holds of the line's number
abbrev pub IfBad : {Answer : Type 0} → Result Answer ReadStop → (ℕ → Type 0) → Type 0
IfBad (Ok answer) Holds = Unit {0}
IfBad (Err (Bad at)) Holds = Holds at
IfBad (Err NoMemory) Holds = Unit {0}

-- a line stood at the front of what was left, and a report can have it
pub record IsTaken (says : Line) (before after : List ℕ) : Type 0 where
  pub good : IsLine says
  pub text : before ≡ line_text says ++ after
  pub shorter : length after < length before

-- a part of a report that began with this line, in front of what was left, was read up to the line behind it
pub record IsRead (text : List ℕ) (Good : Type 0) (first : Line) (before : List ℕ) (line : Line)
    (after : List ℕ) : Type 0 where
  pub good : Good
  pub same : line_text first ++ before ≡ text ++ (line_text line ++ after)
  pub next_good : IsLine line
  pub shorter : length after ≤ length before

-- one part more was read, which began with the first line
pub record Grows {Part : Type 0} (part_text : Part → List ℕ) (IsGood : Part
    → Type 0) (old new : List Part) (first : Line) (before : List ℕ) (line : Line) (after : List ℕ) : Type 0 where
  pub part : Part
  pub pushed : new ≡ old ++ part ∷ []
  pub good : IsGood part
  pub same : line_text first ++ before ≡ part_text part ++ (line_text line ++ after)
  pub next_good : IsLine line
  pub shorter : length after < length before

-- an answer of so many rows was read behind an entry
pub record AnswerGrows (number : ℕ) (old new : List (List (List RowValue))) (first : Line) (before : List ℕ)
    (line : Line) (after : List ℕ) : Type 0 where
  pub answer : List (List RowValue)
  pub pushed : new ≡ old ++ answer ∷ []
  pub size : length answer ≡ number
  pub rows : All IsRow answer
  pub same : line_text first ++ before ≡ flat_map row_text answer ++ (line_text line ++ after)
  pub next_good : IsLine line
  pub shorter : length after ≤ length before

-- the same where one is due; else nothing was read
pub record AnswersGrow (asked : Option ℕ) (old new : List (List (List RowValue))) (first : Line) (before : List ℕ)
    (line : Line) (after : List ℕ) : Type 0 where
  pub more : List (List (List RowValue))
  pub pushed : new ≡ old ++ more
  pub sizes : sizes_of more ≡ option_to_list asked
  pub rows : All (All IsRow) more
  pub same : line_text first ++ before ≡ flat_map (flat_map row_text) more ++ (line_text line ++ after)
  pub next_good : IsLine line
  pub shorter : length after ≤ length before

-- an entry was read, with its answer where one is due
pub record JournalGrows (entry : Entry) (old_entries new_entries : List Entry) (old new : List (List (List RowValue)))
    (before : List ℕ) (line : Line) (after : List ℕ) : Type 0 where
  pub entry_pushed : new_entries ≡ old_entries ++ entry ∷ []
  pub more : List (List (List RowValue))
  pub pushed : new ≡ old ++ more
  pub sizes : sizes_of more ≡ option_to_list (rows_asked entry)
  pub rows : All (All IsRow) more
  pub same : before ≡ flat_map (flat_map row_text) more ++ (line_text line ++ after)
  pub next_good : IsLine line
  pub shorter : length after < length before

-- a journal was read
pub record IsJournalRead (entries : List Entry) (answers : List (List (List RowValue))) (first : Line)
    (before : List ℕ) (line : Line) (after : List ℕ) : Type 0 where
  pub answered : AreAnswered entries answers
  pub rows : All (All IsRow) answers
  pub same : line_text first ++ before ≡ journal_text entries answers ++ (line_text line ++ after)
  pub next_good : IsLine line
  pub shorter : length after ≤ length before

-- the tables and counters of a phase with these blocks were read
pub record PhaseEnds (number : ℕ) (blocks : List BlockReport) (phase : PhaseParts) (before : List ℕ) (line : Line)
    (after : List ℕ) : Type 0 where
  pub number_is : phase.number ≡ number
  pub blocks_are : phase.blocks ≡ blocks
  pub good : IsPhase phase
  pub same : line_text Final ++ before ≡ final_text phase.tables phase.lost ++ (line_text line ++ after)
  pub next_good : IsLine line
  pub shorter : length after < length before
