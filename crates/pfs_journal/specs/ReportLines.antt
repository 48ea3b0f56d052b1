-- A report as its lines.
use Rattle.std.specs.Prelude.{if◌then◌else◌, List, [], ◌∷◌, ◌++◌, map, drop}
use Rattle.std.specs.List.{All, flat_map, slice_index_or}
use Rattle.pfs_event.specs.declared.entry.Entry.{Entry}
use Rattle.pfs_text.specs.declared.values.RowValue.{RowValue}
use Rattle.pfs_journal.specs.declared.line.Line.{Line}
use Rattle.pfs_journal.specs.declared.line.Line.TheVariants as says
use Rattle.pfs_journal.specs.declared.values.LostReport.{LostReport}
use Rattle.pfs_journal.specs.declared.values.TableReport.{TableReport}
use Rattle.pfs_journal.specs.declared.blocks.BlockReport.{BlockReport}
use Rattle.pfs_journal.specs.declared.report.PhaseParts.{PhaseParts}
use Rattle.pfs_journal.specs.declared.report.ReportParts.{ReportParts}
use Rattle.pfs_journal.specs.Spelling.{is_answered}
use Rattle.pfs_journal.specs.LineWords.{FitsLine}

abbrev pub row_lines : List (List RowValue) → List Line
row_lines rows = map says.Row rows

-- an entry's line and, where it has one, its answer
abbrev pub answered_lines : Entry → List (List (List RowValue)) → List Line
answered_lines entry answers =
    says.Entry entry ∷ (if is_answered entry then row_lines (slice_index_or answers 0 []) else [])

-- a journal, where these answers are left
abbrev pub journal_lines : List Entry → List (List (List RowValue)) → List Line
journal_lines [] answers = []
journal_lines (entry ∷ entries) answers =
    answered_lines entry answers ++ journal_lines entries (if is_answered entry then drop 1 answers else answers)

abbrev pub block_lines : BlockReport → List Line
block_lines block = says.Session block.session ∷ journal_lines block.entries block.answers

abbrev pub table_lines : TableReport → List Line
table_lines table = says.Table table.name ∷ row_lines table.rows

-- the tables and counters, and what follows a phase's line
abbrev pub results_lines : List TableReport → List LostReport → List Line
results_lines tables lost = flat_map table_lines tables ++ map says.Lost lost

abbrev pub body_lines : PhaseParts → List Line
body_lines phase = flat_map block_lines phase.blocks ++ says.Final ∷ results_lines phase.tables phase.lost

abbrev pub phase_lines : PhaseParts → List Line
phase_lines phase = says.Phase phase.number ∷ body_lines phase

abbrev pub report_lines : ReportParts → List Line
report_lines report = says.Head report.format ∷ (flat_map phase_lines report.phases ++ says.End ∷ [])

-- each number on each line is below 2^64
abbrev pub FitsReport : ReportParts → Type 0
FitsReport report = All FitsLine (report_lines report)
