-- The SELECTs of a block, judged one after another.
use Rattle.std.specs.Prelude.{ℕ, ◌≡◌, ◌+◌, ◌<◌, List, ◌∷◌, All, drop, Option, Some, None}
use Rattle.std.specs.Borrow.{Bor}
use Rattle.pfs_classes.specs.declared.setting.Setting.{Setting}
use Rattle.pfs_event.specs.declared.entry.Entry.{Entry}
use Rattle.pfs_exec.specs.Requests.{request_of}
use Rattle.pfs_model.specs.EntryPlaces.{Placed}
use Rattle.pfs_runs.specs.SelectAnswers.{Answer, AreAnswers, Selection, selection_in}
use Rattle.pfs_runs.specs.SelectAnswers as runs
use Rattle.pfs_check_answers.specs.SelectParts.{IsCounted, IsQueryPart}
use Rattle.pfs_check_answers.specs.SelectReadings.{NamesHad}
use Rattle.pfs_check_answers.specs.declared.answered.Answered.{Answered}
use Rattle.pfs_check_answers.specs.declared.answered.Answered.TheVariants.{Kept, Wrong as Amiss}
use Rattle.pfs_check_answers.specs.declared.block_lines.Asked.{Asked}
use Rattle.pfs_check_answers.specs.declared.block_lines.Asked.TheVariants.{Held, Stored}
use Rattle.pfs_check_answers.specs.declared.block_lines.Spot.{Spot}
use Rattle.pfs_check_answers.specs.declared.block_lines.Step.{Step}
use Rattle.pfs_check_answers.specs.declared.block_lines.Step.TheVariants.{On, Wrong}
use Rattle.pfs_check_faults.specs.AnswerFaults.{SomeAnswerFails}

-- the SELECT that is meant
abbrev pub selection_of : Asked → Selection
selection_of (Stored select) = runs.Stored select
selection_of (Held select) = runs.Held select

abbrev pub asked_selection : Option Asked → Option Selection
asked_selection None = None
asked_selection (Some asked) = Some (selection_of asked)

-- that of a line with this text of SQL
abbrev pub selection_by : Option (Bor (List ℕ)) → Option Selection
selection_by None = None
selection_by (Some text) = selection_in (request_of text.now)

-- its entries are such as its line asks for and allows, and name versions that rows had
abbrev pub IsAsked : List Placed → Selection → List Entry → Answer → Type 0
IsAsked all (runs.Stored select) part answer = IsQueryPart part × All (NamesHad all) part
IsAsked all (runs.Held select) part answer = IsCounted part

-- so are those of each SELECT of these lines, and each has an answer
abbrev pub AreAsked : List Placed → List (Option Selection) → List (List Entry) → List Answer → Type 0
AreAsked all selections parts given = AreAnswers (IsAsked all) selections parts given

-- all are answered rightly, or this is the first line that is wrong, where the line of the first entry has this number
abbrev pub AreJudged : Setting → (Selection → List Entry → Answer → Type 0) → ℕ → List (Option Selection)
    → List (List Entry) → List Answer → Option ℕ → Type 0
AreJudged setting answers first selections parts given None = AreAnswers answers selections parts given
AreJudged setting answers first selections parts given (Some line) =
    SomeAnswerFails setting answers selections parts given first line
    × ((other : ℕ) → other < line → SomeAnswerFails setting answers selections parts given first other → ⊥)

-- behind a SELECT with so many entries and rows, or at the place that is wrong
abbrev pub IsBehind : Answered → Spot → ℕ → ℕ → ℕ → Step → Type 0
IsBehind Kept spot end entries rows (On next) =
    (next.line ≡ spot.line + (entries + rows)) × (next.start ≡ end) × (next.answer ≡ spot.answer + 1)
IsBehind (Amiss place) spot end entries rows (Wrong line) = line ≡ spot.line + place
IsBehind _ spot end entries rows _ = ⊥

-- the lines from here on leave what is told to those behind the first, which begin at the next spot
pub record GoesOn (all : List Placed) (setting : Setting) (answers : Selection → List Entry → Answer → Type 0)
    (given : List Answer) (spot next : Spot) (selection : Option Selection) (selections : List (Option Selection))
    (part : List Entry) (parts : List (List Entry)) : Type 0 where
  pub asked : AreAsked all selections parts (drop next.answer given)
  pub leaves : (told : Option ℕ) → AreJudged setting answers next.line selections parts (drop next.answer given) told
      → AreJudged setting answers spot.line (selection ∷ selections) (part ∷ parts) (drop spot.answer given) told

-- or the first is wrong
abbrev pub IsStep : List Placed → Setting → (Selection → List Entry → Answer → Type 0) → List Answer → Spot → ℕ
    → Option Selection → List (Option Selection) → List Entry → List (List Entry) → Step → Type 0
IsStep all setting answers given spot end selection selections part parts (On next) =
    (next.start ≡ end) × GoesOn all setting answers given spot next selection selections part parts
IsStep all setting answers given spot end selection selections part parts (Wrong line) =
    AreJudged setting answers spot.line (selection ∷ selections) (part ∷ parts) (drop spot.answer given) (Some line)
