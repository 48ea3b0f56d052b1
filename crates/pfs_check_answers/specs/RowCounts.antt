-- How many rows are said to answer a SELECT, and which, against those that are due.
use Rattle.std.specs.Prelude.{ℕ, ◌≡◌, ◌+◌, ◌⊎◌, length}
use Rattle.pfs_runs.specs.SelectAnswers.{Answer}
use Rattle.pfs_check_answers.specs.declared.answered.Answered.{Answered}
use Rattle.pfs_check_answers.specs.declared.answered.Answered.TheVariants.{Kept, Wrong}
use Rattle.pfs_check_finals.specs.Differences.{DifferAt}

-- so many are due, and this is the first that differs; where one list has ended counts as a row
pub record IsOtherRow (opening number : ℕ) (due answer : Answer) (at : ℕ) : Type 0 where
  pub row : ℕ
  pub count : number ≡ length due
  pub at_is : at ≡ opening + 1 + row
  pub differ : DifferAt due answer row

-- they are those that are due; or this is the first place where they aren't, behind so many entries and the one that
-- says their number
abbrev pub IsCompared : ℕ → ℕ → Answer → Answer → Answered → Type 0
IsCompared opening number due answer Kept = (number ≡ length due) × (due ≡ answer)
IsCompared opening number due answer (Wrong at) =
    ((number ≡ length due → ⊥) × (at ≡ opening)) ⊎ IsOtherRow opening number due answer at
