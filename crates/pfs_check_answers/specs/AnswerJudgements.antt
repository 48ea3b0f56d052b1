-- When a SELECT is answered rightly, and the first place that is wrong.
use Rattle.std.specs.Prelude.{ℕ, ◌<◌, List}
use Rattle.pfs_classes.specs.declared.setting.Setting.{Setting}
use Rattle.pfs_event.specs.declared.entry.Entry.{Entry}
use Rattle.pfs_runs.specs.SelectAnswers.{Answer, Selection}
use Rattle.pfs_check_answers.specs.declared.answered.Answered.{Answered}
use Rattle.pfs_check_answers.specs.declared.answered.Answered.TheVariants.{Kept, Wrong}
use Rattle.pfs_check_faults.specs.AnswerFaults.{AnswerFails}

-- it is wrong at this place of its entries and rows, counted from 0, and at none before
pub record IsFirstWrong (setting : Setting) (answers : Selection → List Entry → Answer → Type 0) (selection : Selection)
    (part : List Entry) (answer : Answer) (at : ℕ) : Type 0 where
  pub fails : AnswerFails setting answers selection part answer 0 at
  pub first : (other : ℕ) → other < at → AnswerFails setting answers selection part answer 0 other → ⊥

-- it is answered rightly, or this is the first place that is wrong
abbrev pub IsJudged : Setting → (Selection → List Entry → Answer → Type 0) → Selection → List Entry → Answer → Answered
    → Type 0
IsJudged setting answers selection part answer Kept = answers selection part answer
IsJudged setting answers selection part answer (Wrong at) = IsFirstWrong setting answers selection part answer at
