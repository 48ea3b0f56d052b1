-- Which line of a text is the first with which no report begins.
use Rattle.std.specs.Prelude.{ℕ, zero, suc, ◌≡◌, ◌≢◌, ◌+◌, ◌-◌, ◌≤◌, ◌==◌, if◌then◌else◌, List, [], ◌∷◌, ◌++◌}
use Rattle.pfs_journal.specs.declared.report.ReportParts.{ReportParts}
use Rattle.pfs_journal.specs.ReportLines.{FitsReport}
use Rattle.pfs_journal.specs.Reports.{IsReport}
use Rattle.pfs_journal.specs.Spelling.{spelling}

-- how many lines are whole: each line feed ends one
abbrev pub whole_lines : List ℕ → ℕ
whole_lines [] = 0
whole_lines (b ∷ bytes) = if b == 10 then suc (whole_lines bytes) else whole_lines bytes

-- the first so many lines, each with its line feed
abbrev pub first_lines : ℕ → List ℕ → List ℕ
first_lines zero bytes = []
first_lines (suc number) [] = []
first_lines (suc number) (b ∷ bytes) = b ∷ first_lines (if b == 10 then number else suc number) bytes

-- a report's spelling begins so
pub record Begins (bytes : List ℕ) : Type 0 where
  pub report : ReportParts
  pub good : IsReport report
  pub fits : FitsReport report
  pub more : List ℕ
  pub same : spelling report ≡ bytes ++ more

-- the lines in front of this one begin a report, and they don't with it or, where no whole line follows, are none
pub record IsFirstWrong (bytes : List ℕ) (at : ℕ) : Type 0 where
  pub positive : 1 ≤ at
  pub there : at ≤ whole_lines bytes + 1
  pub begins : Begins (first_lines (at - 1) bytes)
  pub ends : at ≤ whole_lines bytes → ¬ Begins (first_lines at bytes)
  pub no_report : (report : ReportParts) → IsReport report → FitsReport report → bytes ≢ spelling report

-- the bytes decide the line
abbrev pub OneLineIsWrong : Type 0
OneLineIsWrong = (bytes : List ℕ) (a b : ℕ) → IsFirstWrong bytes a → IsFirstWrong bytes b → a ≡ b
