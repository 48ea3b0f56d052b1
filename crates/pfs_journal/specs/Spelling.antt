-- The spelling of a report: its lines, each ended by a line feed.
use Rattle.std.specs.Prelude.{ℕ, Bool, true, false, if◌then◌else◌, List, [], ◌∷◌, ◌++◌, Option, Some, None, codes, decimal, drop}
use Rattle.std.specs.List.{flat_map, slice_index_or}
use Rattle.pfs_text.specs.QuotedTexts.{quoted}
use Rattle.pfs_event.specs.declared.entry.Entry.{Entry}
use Rattle.pfs_event.specs.declared.entry.Entry.TheVariants as entry
use Rattle.pfs_event.specs.Verdicts.{verdict_name}
use Rattle.pfs_text.specs.declared.values.RowValue.{RowValue}
use Rattle.pfs_text.specs.declared.values.RowValue.TheVariants as value
use Rattle.pfs_journal.specs.declared.values.TableReport.{TableReport}
use Rattle.pfs_journal.specs.declared.values.LostReport.{LostReport}
use Rattle.pfs_journal.specs.declared.blocks.BlockReport.{BlockReport}
use Rattle.pfs_journal.specs.declared.report.PhaseParts.{PhaseParts}
use Rattle.pfs_journal.specs.declared.report.ReportParts.{ReportParts}

-- a number behind a space
unfoldable pub field_text : ℕ → List ℕ
field_text number = codes " " ++ decimal number

-- the same, or `-` where there is none
abbrev pub optional_text : Option ℕ → List ℕ
optional_text None = codes " -"
optional_text (Some number) = field_text number

-- a word and its numbers
unfoldable pub numbers_text : List ℕ → List (Option ℕ) → List ℕ
numbers_text word numbers = word ++ flat_map optional_text numbers ++ codes "\n"

-- a journal entry's line
abbrev pub entry_text : Entry → List ℕ
entry_text (entry.Connect action thread account user host) =
    numbers_text (codes "connect") (Some action ∷ thread ∷ account ∷ user ∷ host ∷ [])
entry_text (entry.Start event verdict consumers thread class table) =
    numbers_text (codes "start" ++ optional_text event ++ codes " " ++ verdict_name verdict) (consumers ∷ thread
    ∷ class ∷ table ∷ [])
entry_text (entry.End event last consumers thread) = numbers_text (codes "end") (event ∷ last ∷ consumers ∷ thread ∷ [])
entry_text (entry.Add row version) = numbers_text (codes "add") (Some row ∷ Some version ∷ [])
entry_text (entry.Held row first second) = numbers_text (codes "held") (Some row ∷ Some first ∷ Some second ∷ [])
entry_text (entry.Ring row version) = numbers_text (codes "ring") (Some row ∷ Some version ∷ [])
entry_text (entry.Long row version ticket) = numbers_text (codes "long") (Some row ∷ Some version ∷ Some ticket ∷ [])
entry_text (entry.Busy row first second) = numbers_text (codes "busy") (Some row ∷ Some first ∷ Some second ∷ [])
entry_text (entry.Late row ticket greater) = numbers_text (codes "late") (Some row ∷ Some ticket ∷ Some greater ∷ [])
entry_text entry.Settle = numbers_text (codes "settle") []
entry_text (entry.Act action) = numbers_text (codes "act") (Some action ∷ [])
entry_text (entry.Take row version) = numbers_text (codes "take") (Some row ∷ Some version ∷ [])
entry_text (entry.Give row version source) = numbers_text (codes "give") (Some row ∷ Some version ∷ Some source ∷ [])
entry_text (entry.Tag row version) = numbers_text (codes "tag") (Some row ∷ Some version ∷ [])
entry_text (entry.Free row version) = numbers_text (codes "free") (Some row ∷ Some version ∷ [])
entry_text (entry.Set word version flags) = numbers_text (codes "set") (Some word ∷ Some version ∷ Some flags ∷ [])
entry_text (entry.Reply number) = numbers_text (codes "reply") (Some number ∷ [])
entry_text (entry.Error number) = numbers_text (codes "error") (Some number ∷ [])
entry_text entry.Query = numbers_text (codes "query") []
entry_text (entry.Seen row version) = numbers_text (codes "seen") (Some row ∷ Some version ∷ [])
entry_text (entry.Vacant row) = numbers_text (codes "vacant") (Some row ∷ [])
entry_text (entry.Saw word version) = numbers_text (codes "saw") (Some word ∷ Some version ∷ [])
entry_text (entry.Rows number) = numbers_text (codes "rows") (Some number ∷ [])

-- a value: NULL, a number, or a quoted text
unfoldable pub value_text : RowValue → List ℕ
value_text value.Null = codes " NULL"
value_text (value.Number number) = field_text number
value_text (value.Text text) = codes " " ++ quoted text

-- a row's line
unfoldable pub row_text : List RowValue → List ℕ
row_text row = codes "row" ++ flat_map value_text row ++ codes "\n"

-- an answer stands behind the entry
abbrev pub is_answered : Entry → Bool
is_answered (entry.Rows number) = true
is_answered _ = false

-- an entry's line and, where it has one, its answer
unfoldable pub answered_text : Entry → List (List (List RowValue)) → List ℕ
answered_text entry answers =
    entry_text entry ++ (if is_answered entry then flat_map row_text (slice_index_or answers 0 []) else [])

-- a journal, where these answers are left
unfoldable pub journal_text : List Entry → List (List (List RowValue)) → List ℕ
journal_text [] answers = []
journal_text (entry ∷ entries) answers =
    answered_text entry answers ++ journal_text entries (if is_answered entry then drop 1 answers else answers)

-- a session's line
unfoldable pub session_line : ℕ → List ℕ
session_line number = numbers_text (codes "session") (Some number ∷ [])

-- a session's line, and its journal
unfoldable pub block_text : BlockReport → List ℕ
block_text block = session_line block.session ++ journal_text block.entries block.answers

-- a table's line
unfoldable pub table_line : List ℕ → List ℕ
table_line name = codes "table " ++ name ++ codes "\n"

-- a table's line, and its rows
unfoldable pub table_text : TableReport → List ℕ
table_text table = table_line table.name ++ flat_map row_text table.rows

-- a counter's line
unfoldable pub lost_text : LostReport → List ℕ
lost_text lost = numbers_text (codes "lost " ++ lost.name) (Some lost.number ∷ [])

-- the tables and counters
unfoldable pub results_text : List TableReport → List LostReport → List ℕ
results_text tables lost = flat_map table_text tables ++ flat_map lost_text lost

unfoldable pub final_line : List ℕ
final_line = codes "final\n"

-- what follows a phase's journals
unfoldable pub final_text : List TableReport → List LostReport → List ℕ
final_text tables lost = final_line ++ results_text tables lost

-- what follows a phase's line: its blocks, and its tables and counters
unfoldable pub body_text : PhaseParts → List ℕ
body_text phase = flat_map block_text phase.blocks ++ final_text phase.tables phase.lost

unfoldable pub phase_line : ℕ → List ℕ
phase_line number = numbers_text (codes "phase") (Some number ∷ [])

-- a phase
unfoldable pub phase_text : PhaseParts → List ℕ
phase_text phase = phase_line phase.number ++ body_text phase

-- the phases, and the last line
unfoldable pub phases_text : List PhaseParts → List ℕ
phases_text phases = flat_map phase_text phases ++ codes "end\n"

unfoldable pub first_line : ℕ → List ℕ
first_line format = numbers_text (codes "pfs-report") (Some format ∷ [])

-- the whole report
unfoldable pub spelling : ReportParts → List ℕ
spelling report = first_line report.format ++ phases_text report.phases
