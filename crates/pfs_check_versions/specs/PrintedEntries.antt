-- The entries of a report as it prints them: each with its line, its phase and its session.
use Rattle.std.specs.Prelude.{ℕ, ◌+◌, if◌then◌else◌, List, [], ◌∷◌, ◌++◌, length, drop}
use Rattle.std.specs.List.{slice_index_or}
use Rattle.pfs_event.specs.declared.entry.Entry.{Entry}
use Rattle.pfs_journal.specs.ReportLines.{block_lines, phase_lines}
use Rattle.pfs_journal.specs.Spelling.{is_answered}
use Rattle.pfs_journal.specs.declared.blocks.BlockReport.{BlockReport}
use Rattle.pfs_journal.specs.declared.report.PhaseParts.{PhaseParts}
use Rattle.pfs_journal.specs.declared.report.ReportParts.{ReportParts}
use Rattle.pfs_text.specs.declared.values.RowValue.{RowValue}

pub record Printed : Type 0 where
  pub line : ℕ
  pub phase : ℕ
  pub session : ℕ
  pub entry : Entry

-- how many rows stand behind an entry, and which answers are left there
abbrev pub rows_behind : Entry → List (List (List RowValue)) → ℕ
rows_behind entry answers = if is_answered entry then length (slice_index_or answers 0 []) else 0

abbrev pub answers_behind : Entry → List (List (List RowValue)) → List (List (List RowValue))
answers_behind entry answers = if is_answered entry then drop 1 answers else answers

-- of a journal whose first entry stands on this line
abbrev pub printed_entries : ℕ → ℕ → ℕ → List Entry → List (List (List RowValue)) → List Printed
printed_entries line phase session [] answers = []
printed_entries line phase session (entry ∷ entries) answers =
    record { line = line; phase = phase; session = session; entry = entry }
    ∷ printed_entries (line + 1 + rows_behind entry answers) phase session entries (answers_behind entry answers)

-- of blocks of a phase, the first of which has its `session` line here
abbrev pub printed_blocks : ℕ → ℕ → List BlockReport → List Printed
printed_blocks line phase [] = []
printed_blocks line phase (block ∷ blocks) =
    printed_entries (line + 1) phase block.session block.entries block.answers
    ++ printed_blocks (line + length (block_lines block)) phase blocks

-- of phases, the first of which has this number and its `phase` line here; they are counted in their order
abbrev pub printed_phases : ℕ → ℕ → List PhaseParts → List Printed
printed_phases line number [] = []
printed_phases line number (phase ∷ phases) =
    printed_blocks (line + 1) number phase.blocks
    ++ printed_phases (line + length (phase_lines phase)) (number + 1) phases

-- The first line is that of the format.
abbrev pub printed_in : ReportParts → List Printed
printed_in report = printed_phases 2 1 report.phases
