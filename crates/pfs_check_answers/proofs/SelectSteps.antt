-- The SELECTs of a block, one after another.
use Rattle.std.proofs.Common.{◌≡◌, refl, ℕ, ◌+◌, ◌<◌, ◌≤◌, List, [], ◌∷◌, length, take, sym, ap, subst, ◌⊎◌, inl, inr, arith, Option, Some, None}
use Rattle.pfs_admin.specs.AdministrationStates.{State}
use Rattle.pfs_classes.specs.declared.setting.Setting.{Setting}
use Rattle.pfs_event.specs.declared.entry.Entry.{Entry}
use Rattle.pfs_journal.specs.ReportLines.{journal_lines}
use Rattle.pfs_runs.specs.SelectAnswers.{Answer, Held, IsAnswered, Selection, Stored}
use Rattle.pfs_check_answers.specs.AnswerJudgements.{IsFirstWrong}
use Rattle.pfs_check_faults.specs.AnswerFaults.{AnswerFails, AnswersUpTo, ReadsUpTo, SomeAnswerFails}
use Rattle.pfs_check_answers.specs.BlockSelects.{AreJudged}

-- a right answer reads as is asked
abbrev ReadsRight : Setting → (Selection → List Entry → Answer → Type 0) → Type 0
ReadsRight setting answers = (selection : Selection) (part : List Entry) (answer : Answer) → answers selection part answer
    → (at : ℕ) → ReadsUpTo setting selection part at

module _ (setting : Setting) (answers : Selection → List Entry → Answer → Type 0) where
  -- a SELECT's fault stands on its own lines
  one_within : (selection : Selection) (part : List Entry) (answer : Answer) (first line : ℕ) → AnswerFails setting answers selection part answer first line
      → (first ≤ line) × (line ≤ first + length (journal_lines part (answer ∷ [])))
  one_within selection part answer first line fail = (omega (arith, fail.line_is), omega (arith, fail.line_is, fail.within))

  -- those of SELECTs stand on the first line or behind it
  all_behind : (selections : List (Option Selection)) (parts : List (List Entry)) (given : List Answer) (first line : ℕ)
      → SomeAnswerFails setting answers selections parts given first line → first ≤ line
  all_behind [] parts given first line f = absurd f
  all_behind (None ∷ selections) [] given first line f = absurd f
  all_behind (Some selection ∷ selections) [] given first line f = absurd f
  all_behind (None ∷ selections) (part ∷ parts) given first line f =
      let rest = all_behind selections parts given (first + length (journal_lines part [])) line f in omega (arith, rest)
  all_behind (Some selection ∷ selections) (part ∷ parts) [] first line f = absurd f
  all_behind (Some selection ∷ selections) (part ∷ parts) (answer ∷ given) first line (inl f) = (one_within selection part answer first line f).0
  all_behind (Some selection ∷ selections) (part ∷ parts) (answer ∷ given) first line (inr f) =
      let rest = all_behind selections parts given (first + length (journal_lines part (answer ∷ []))) line f in omega (arith, rest)

  -- the lines of a fault begin anywhere
  moved : (selection : Selection) (part : List Entry) (answer : Answer) (first at : ℕ) → AnswerFails setting answers selection part answer 0 at
      → AnswerFails setting answers selection part answer first (first + at)
  moved selection part answer first at fail = record {
    at = fail.at;
    line_is = let e = fail.line_is in omega (arith, e);
    within = fail.within;
    wrong = fail.wrong;
  }

  moved_back : (selection : Selection) (part : List Entry) (answer : Answer) (first line : ℕ) (fail : AnswerFails setting answers selection part answer first line)
      → AnswerFails setting answers selection part answer 0 fail.at
  moved_back selection part answer first line fail = record { at = fail.at; line_is = omega arith; within = fail.within; wrong = fail.wrong }

  -- one that is wrong comes before all behind it
  pub wrong_first : (selection : Selection) (selections : List (Option Selection)) (part : List Entry) (parts : List (List Entry)) (answer : Answer) (given : List Answer)
      (first at line : ℕ) → IsFirstWrong setting answers selection part answer at → line ≡ first + at
      → AreJudged setting answers first (Some selection ∷ selections) (part ∷ parts) (answer ∷ given) (Some line)
  wrong_first selection selections part parts answer given first at line wrong is = (
    inl (subst (AnswerFails setting answers selection part answer first) (sym is) (moved selection part answer first at wrong.fails)),
    λ other low f. on other low f,
  ) where
    on : (other : ℕ) → other < line → SomeAnswerFails setting answers (Some selection ∷ selections) (part ∷ parts) (answer ∷ given) first other → ⊥
    on other low (inl f) = wrong.first f.at (omega (arith, low, is, f.line_is)) (moved_back selection part answer first other f)
    on other low (inr f) =
        let rest = all_behind selections parts given (first + length (journal_lines part (answer ∷ []))) other f in
        let own = (one_within selection part answer 0 at wrong.fails).1 in
        omega (arith, rest, own, low, is)

  module _ (reads : ReadsRight setting answers) where
    never_wrong : (selection : Selection) (part : List Entry) (answer : Answer) (first line : ℕ) → answers selection part answer
        → AnswerFails setting answers selection part answer first line → ⊥
    never_wrong selection part answer first line right fail = on fail.wrong where
      on : (ReadsUpTo setting selection part fail.at → ⊥) ⊎ ((length part ≤ fail.at + 1) × (AnswersUpTo answers selection part answer fail.at → ⊥)) → ⊥
      on (inl never) = never (reads selection part answer right fail.at)
      on (inr never) = never.1 (record { due = part; rows = answer; right = right; long = refl; alike = refl })

    -- one that is right leaves what is told to those behind it
    pub right_first : (selection : Selection) (selections : List (Option Selection)) (part : List Entry) (parts : List (List Entry)) (answer : Answer) (given : List Answer)
        (first : ℕ) → answers selection part answer → (told : Option ℕ)
        → AreJudged setting answers (first + length (journal_lines part (answer ∷ []))) selections parts given told
        → AreJudged setting answers first (Some selection ∷ selections) (part ∷ parts) (answer ∷ given) told
    right_first selection selections part parts answer given first right None rest = (right, rest)
    right_first selection selections part parts answer given first right (Some line) rest = (inr rest.0, λ other low f. on other low f) where
      on : (other : ℕ) → other < line → SomeAnswerFails setting answers (Some selection ∷ selections) (part ∷ parts) (answer ∷ given) first other → ⊥
      on other low (inl f) = never_wrong selection part answer first other right f
      on other low (inr f) = rest.1 other low f

-- a line without one does so too
pub none_first : (setting : Setting) (answers : Selection → List Entry → Answer → Type 0) (selections : List (Option Selection)) (part : List Entry)
    (parts : List (List Entry)) (given : List Answer) (first : ℕ) (told : Option ℕ) → AreJudged setting answers (first + length (journal_lines part [])) selections parts given told
    → AreJudged setting answers first (None ∷ selections) (part ∷ parts) given told
none_first setting answers selections part parts given first None rest = rest
none_first setting answers selections part parts given first (Some line) rest = rest

pub answered_reads : (setting : Setting) (content : ℕ → ℕ → List ℕ) (flags : ℕ → ℕ → ℕ) (before : ℕ → State)
    → ReadsRight setting (IsAnswered setting content flags before)
answered_reads setting content flags before (Stored select) part answer h at = record {
  readings = h.readings;
  whole = h.whole;
  number = length answer;
  alike = ap (take (at + 1)) (sym h.told);
}
answered_reads setting content flags before (Held select) part answer h at = tt
