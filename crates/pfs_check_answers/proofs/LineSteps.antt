-- One line of a block: what it leaves to those behind it.
use Rattle.std.proofs.Common.{◌≡◌, refl, ℕ, zero, suc, ◌+◌, ◌≤◌, true, false, List, [], ◌∷◌, drop, length, sym, ◌∙◌, ap, subst, arith, Option, Some, None}
use Rattle.std.proofs.lemmas.Bool.{false≢true}
use Rattle.std.proofs.lemmas.List.Elements.{All-cons, All-weaker}
use Rattle.pfs_admin.specs.AdministrationStates.{State}
use Rattle.pfs_classes.specs.declared.setting.Setting.{Setting}
use Rattle.pfs_event.specs.declared.entry.Entry.{Entry}
use Rattle.pfs_event.specs.declared.entry.Entry.TheVariants as says
use Rattle.pfs_journal.specs.ReportLines.{journal_lines}
use Rattle.pfs_journal.specs.Spelling.{is_answered}
use Rattle.pfs_model.specs.EntryAsks.{is_reading}
use Rattle.pfs_model.specs.EntryPlaces.{Placed}
use Rattle.pfs_runs.specs.SelectAnswers.{Answer, Held, IsAnswered, Selection, Stored}
use Rattle.pfs_check_answers.specs.AnswerJudgements.{IsJudged}
use Rattle.pfs_check_answers.specs.BlockSelects.{AreAsked, AreJudged, IsAsked, IsBehind, IsStep}
use Rattle.pfs_check_answers.specs.SelectParts.{IsCounted, IsQueryPart}
use Rattle.pfs_check_answers.specs.declared.answered.Answered.{Answered}
use Rattle.pfs_check_answers.specs.declared.answered.Answered.TheVariants.{Kept, Wrong as Amiss}
use Rattle.pfs_check_answers.specs.declared.block_lines.Spot.{Spot}
use Rattle.pfs_check_answers.specs.declared.block_lines.Step.{Step}
use Rattle.pfs_check_answers.specs.declared.block_lines.Step.TheVariants.{On, Wrong}
use Rattle.pfs_check_answers.proofs.AnswerLines.{lines_count, silent_long}
use Rattle.pfs_check_answers.proofs.SelectSteps.{answered_reads, none_first, right_first, wrong_first}

silent : (entry : Entry) → is_reading entry ≡ true → is_answered entry ≡ false
silent (says.Rows number) h = absurd (false≢true h)
silent _ h = refl

-- one that reads the store says at last how many rows there are
pub query_counted : (part : List Entry) → IsQueryPart part → IsCounted part
query_counted part query = record {
  opening = says.Query ∷ query.readings;
  number = query.number;
  none = All-cons (λ entry. is_answered entry ≡ false) says.Query query.readings refl
      (All-weaker (λ entry. is_reading entry ≡ true) (λ entry. is_answered entry ≡ false) silent query.readings query.each);
  told = query.told;
}

-- a SELECT has as many lines as entries and rows
asked_count : (all : List Placed) (selection : Selection) (part : List Entry) (answer : Answer) → IsAsked all selection part answer
    → length (journal_lines part (answer ∷ [])) ≡ length part + length answer
asked_count all (Stored select) part answer asked =
    subst (λ z. length (journal_lines z (answer ∷ [])) ≡ length z + length answer) (sym asked.0.told)
    (lines_count (says.Query ∷ asked.0.readings) asked.0.number answer
    (All-cons (λ entry. is_answered entry ≡ false) says.Query asked.0.readings refl
    (All-weaker (λ entry. is_reading entry ≡ true) (λ entry. is_answered entry ≡ false) silent asked.0.readings asked.0.each)))
asked_count all (Held select) part answer asked =
    subst (λ z. length (journal_lines z (answer ∷ [])) ≡ length z + length answer) (sym asked.told) (lines_count asked.opening asked.number answer asked.none)

module _ (all : List Placed) (setting : Setting) (content : ℕ → ℕ → List ℕ) (flags : ℕ → ℕ → ℕ) (before : ℕ → State) (given : List Answer) (spot : Spot)
    (end : ℕ) (selections : List (Option Selection)) (part : List Entry) (parts : List (List Entry)) where
  -- a line without a SELECT
  pub none_step : (selection : Option Selection) (next : Spot) → None ≡ selection → AreAsked all (selection ∷ selections) (part ∷ parts) (drop spot.answer given)
      → next.line ≡ spot.line + length part → next.start ≡ end → next.answer ≡ spot.answer
      → IsStep all setting (IsAnswered setting content flags before) given spot end selection selections part parts (On next)
  none_step selection next none asked line start answer =
      subst (λ z. AreAsked all (z ∷ selections) (part ∷ parts) (drop spot.answer given)
      → IsStep all setting (IsAnswered setting content flags before) given spot end z selections part parts (On next)) none
      (λ asked. (
        start,
        record {
          asked = subst (λ n. AreAsked all selections parts (drop n given)) (sym answer) asked;
          leaves = λ told rest.
              none_first setting (IsAnswered setting content flags before) selections part parts (drop spot.answer given) spot.line told
              (subst (λ n. AreJudged setting (IsAnswered setting content flags before) n selections parts (drop spot.answer given) told)
              (line ∙ ap (λ n. spot.line + n) (sym (silent_long part)))
              (subst (λ n. AreJudged setting (IsAnswered setting content flags before) next.line selections parts (drop n given) told) answer rest));
        },
      )) asked

  -- a SELECT whose answer is missing
  pub missing_step : (selection : Selection) (other : Option Selection) → Some selection ≡ other → AreAsked all (other ∷ selections) (part ∷ parts) (drop spot.answer given)
      → length given ≤ spot.answer → ⊥
  missing_step selection other is asked few = on (drop spot.answer given) (subst (λ z. AreAsked all (z ∷ selections) (part ∷ parts) (drop spot.answer given)) (sym is) asked) (none_left given spot.answer few) where
    none_left : (xs : List Answer) (n : ℕ) → length xs ≤ n → drop n xs ≡ []
    none_left [] zero low = refl
    none_left [] (suc n) low = refl
    none_left (x ∷ xs) zero low = absurd (omega (arith, low))
    none_left (x ∷ xs) (suc n) low = none_left xs n (omega (arith, low))

    on : (left : List Answer) → AreAsked all (Some selection ∷ selections) (part ∷ parts) left → left ≡ [] → ⊥
    on [] asked e = asked
    on (answer ∷ left) asked e = cc

  -- a SELECT that is judged
  pub select_step : (selection : Selection) (other : Option Selection) (answer : Answer) (answered : Answered) (step : Step) → Some selection ≡ other
      → AreAsked all (other ∷ selections) (part ∷ parts) (drop spot.answer given) → drop spot.answer given ≡ answer ∷ drop (spot.answer + 1) given
      → (IsAsked all selection part answer → IsJudged setting (IsAnswered setting content flags before) selection part answer answered)
      → IsBehind answered spot end (length part) (length answer) step
      → IsStep all setting (IsAnswered setting content flags before) given spot end other selections part parts step
  select_step selection other answer answered step is asked left judged behind =
      subst (λ z. IsStep all setting (IsAnswered setting content flags before) given spot end z selections part parts step) is
      (on answered step (judged own.0) behind)
    where
      own : AreAsked all (Some selection ∷ selections) (part ∷ parts) (answer ∷ drop (spot.answer + 1) given)
      own = subst (AreAsked all (Some selection ∷ selections) (part ∷ parts)) left (subst (λ z. AreAsked all (z ∷ selections) (part ∷ parts) (drop spot.answer given)) (sym is) asked)

      on : (answered : Answered) (step : Step) → IsJudged setting (IsAnswered setting content flags before) selection part answer answered
          → IsBehind answered spot end (length part) (length answer) step
          → IsStep all setting (IsAnswered setting content flags before) given spot end (Some selection) selections part parts step
      on Kept (On next) right b = (
        b.1,
        record {
          asked = subst (λ n. AreAsked all selections parts (drop n given)) (sym b.2) own.1;
          leaves = λ told rest.
              subst (λ z. AreJudged setting (IsAnswered setting content flags before) spot.line (Some selection ∷ selections) (part ∷ parts) z told) (sym left)
              (right_first setting (IsAnswered setting content flags before) (answered_reads setting content flags before) selection selections part parts answer
              (drop (spot.answer + 1) given) spot.line right told
              (subst (λ n. AreJudged setting (IsAnswered setting content flags before) n selections parts (drop (spot.answer + 1) given) told)
              (b.0 ∙ ap (λ n. spot.line + n) (sym (asked_count all selection part answer own.0)))
              (subst (λ n. AreJudged setting (IsAnswered setting content flags before) next.line selections parts (drop n given) told) b.2 rest)));
        },
      )
      on Kept (Wrong line) right b = absurd b
      on (Amiss place) (On next) wrong b = absurd b
      on (Amiss place) (Wrong line) wrong b =
          subst (λ z. AreJudged setting (IsAnswered setting content flags before) spot.line (Some selection ∷ selections) (part ∷ parts) z (Some line)) (sym left)
          (wrong_first setting (IsAnswered setting content flags before) selection selections part parts answer (drop (spot.answer + 1) given) spot.line place line wrong b)
