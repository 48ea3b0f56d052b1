-- The lines of a report one by one.
use Rattle.std.specs.Prelude.{ℕ, ◌≡◌, List, codes}
use Rattle.pfs_journal.specs.declared.line.Line.{Line}
use Rattle.pfs_journal.specs.declared.line.Line.TheVariants.{Head, Phase, Session, Entry, Row, Final, Table, Lost, End}
use Rattle.pfs_journal.specs.Reports.{IsRow, IsName, IsLost}
use Rattle.pfs_journal.specs.LineWords.{FitsLine}
use Rattle.pfs_journal.specs.Spelling.{first_line, phase_line, session_line, entry_text, row_text, final_line, table_line, lost_text}

-- the line that says something
unfoldable pub line_text : Line → List ℕ
line_text (Head format) = first_line format
line_text (Phase number) = phase_line number
line_text (Session number) = session_line number
line_text (Entry entry) = entry_text entry
line_text (Row row) = row_text row
line_text Final = final_line
line_text (Table name) = table_line name
line_text (Lost lost) = lost_text lost
line_text End = codes "end\n"

-- a report can have such a line
abbrev pub IsLine : Line → Type 0
IsLine (Row row) = IsRow row
IsLine (Table name) = IsName name
IsLine (Lost lost) = IsLost lost
IsLine (Head format) = format ≡ 1
IsLine _ = Unit {0}

-- a line of a report whose numbers are below 2^64
pub record IsGoodLine (line : Line) : Type 0 where
  pub can : IsLine line
  pub fits : FitsLine line
