-- An entry looked for among lines.
use Rattle.std.specs.Prelude.{ℕ, ◌≡◌, ◌+◌, ◌^◌, ◌≤◌, List, ◌++◌, length, Option, Some, Result, Ok, Err, slice_get}
use Rattle.pfs_journal.specs.declared.line.Line.{Line}
use Rattle.pfs_check_faults.specs.ReportCases.{is_entry_line, numbers_where}
use Rattle.pfs_check_line_numbers.specs.declared.searches.Found.{Found}
use Rattle.pfs_check_line_numbers.specs.declared.searches.Found.TheVariants.{On, Behind}
use Rattle.pfs_check_line_numbers.specs.declared.searches.Search.{Search}

-- the line of the entry behind so many, where these lines stand from this one on
abbrev pub sought : Search → List Line → Option ℕ
sought search lines = slice_get (numbers_where is_entry_line search.line lines) search.left

-- it stands on this line, or behind these lines, whatever stands there
abbrev pub IsFound : Search → List Line → Found → Type 0
IsFound search lines (On line) = (tail : List Line) → sought search (lines ++ tail) ≡ Some line
IsFound search lines (Behind rest) = (tail : List Line) → sought search (lines ++ tail) ≡ sought rest tail

-- where the search goes on, it does so behind these lines; an Err says that their numbers are 2^64 or more
abbrev pub GoesOn : {E : Type 0} → Search → List Line → Result Found E → Type 0
GoesOn search lines (Ok (On line)) = Unit {0}
GoesOn search lines (Ok (Behind rest)) = rest.line ≡ search.line + length lines
GoesOn search lines (Err fault) = 2 ^ 64 ≤ search.line + length lines
