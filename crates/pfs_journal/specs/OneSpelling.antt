-- One spelling of a report.
use Rattle.std.specs.Prelude.{ℕ, ◌≡◌, List, [], ◌++◌}
use Rattle.std.specs.List.{flat_map}
use Rattle.pfs_journal.specs.declared.report.ReportParts.{ReportParts}
use Rattle.pfs_journal.specs.FirstWrongLine.{IsFirstWrong}
use Rattle.pfs_journal.specs.SingleLines.{line_text}
use Rattle.pfs_journal.specs.ReportLines.{FitsReport, report_lines}
use Rattle.pfs_journal.specs.Reports.{IsReport}
use Rattle.pfs_journal.specs.Spelling.{spelling}

-- no spelling of a report is a proper front of another
abbrev pub NoSpellingIsAFront : Type 0
NoSpellingIsAFront = (a b : ReportParts) (more : List ℕ) → IsReport a → IsReport b → spelling b ≡ spelling a ++ more
    → more ≡ []

-- what is written of a report is wrong at no line, and no other report is spelled so
pub record IsReadAgain (report : ReportParts) : Type 0 where
  pub taken : (at : ℕ) → ¬ IsFirstWrong (spelling report) at
  pub same : (other : ReportParts) → IsReport other → FitsReport other → spelling other ≡ spelling report
      → other ≡ report

abbrev pub WrittenIsRead : Type 0
WrittenIsRead = (report : ReportParts) → IsReport report → FitsReport report → IsReadAgain report

-- a report is spelled by its lines
abbrev pub SpelledByLines : Type 0
SpelledByLines = (report : ReportParts) → spelling report ≡ flat_map line_text (report_lines report)
