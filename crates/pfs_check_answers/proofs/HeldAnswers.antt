-- A SELECT on a table that the administration holds is answered by one list of rows.
use Rattle.std.proofs.Common.{◌≡◌, ℕ, ◌+◌, ◌-◌, List, [], ◌∷◌, ◌++◌, length, sym, ◌∙◌, ap, subst, arith}
use Rattle.std.proofs.lemmas.List.{append_assoc, length-append}
use Rattle.pfs_admin.specs.AdministrationStates.{State}
use Rattle.pfs_classes.specs.declared.setting.Setting.{Setting}
use Rattle.pfs_event.specs.declared.entry.Entry.{Entry}
use Rattle.pfs_event.specs.declared.entry.Entry.TheVariants as says
use Rattle.pfs_exec.specs.declared.query.Select.{Select}
use Rattle.pfs_runs.specs.SelectAnswers.{Answer, AnswersHeld, Held, IsAnswered, IsHeldShown}
use Rattle.pfs_setups.specs.HeldRows.{held_rows}
use Rattle.pfs_check_answers.specs.AnswerJudgements.{IsFirstWrong, IsJudged}
use Rattle.pfs_check_answers.specs.RowCounts.{IsCompared}
use Rattle.pfs_check_answers.specs.SelectParts.{ActsAt, ActsNowhere}
use Rattle.pfs_check_answers.specs.declared.answered.Answered.{Answered}
use Rattle.pfs_check_answers.proofs.AnswerLines.{AreRowsDue, NoneAnswered, judged, never_answered}
use Rattle.pfs_check_answers.proofs.StoredAnswers.{OneAnswer, ends_alike, same_count}

module _ (one_answer : OneAnswer) (setting : Setting) (content : ℕ → ℕ → List ℕ) (flags : ℕ → ℕ → ℕ) (before : ℕ → State) (select : Select) (opening : List Entry) (none : NoneAnswered opening) where
  -- the last of the entries before their number of rows is the action
  acts_there : (number : ℕ) (rows : Answer) (h : IsHeldShown before select (opening ++ says.Rows number ∷ []) rows) → ActsAt opening h.number × (number ≡ length rows)
  acts_there number rows h =
      let e = ends_alike opening (h.settled ++ says.Act h.number ∷ []) (says.Rows number) (says.Rows (length rows))
      (h.told ∙ sym (append_assoc h.settled (says.Act h.number ∷ []) (says.Rows (length rows) ∷ []))) in
      ((h.settled, e.0), same_count number (length rows) e.1)

  acts_once : (one other : ℕ) → ActsAt opening one → ActsAt opening other → one ≡ other
  acts_once one other a b =
      let e = (ends_alike a.0 b.0 (says.Act one) (says.Act other) (sym a.1 ∙ b.1)).1 in
      same_action one other e
    where
      same_action : (one other : ℕ) → says.Act one ≡ says.Act other → one ≡ other
      same_action one other e = cc

  due_held : (action : ℕ) (due : Answer) → ActsAt opening action → AnswersHeld select (before action).actors (before action).objects due
      → AreRowsDue setting (IsAnswered setting content flags before) (Held select) opening none due
  due_held action due acts is = record {
    right = record {
      settled = acts.0;
      number = action;
      told = ap (λ z. z ++ says.Rows (length due) ∷ []) acts.1 ∙ append_assoc acts.0 (says.Act action ∷ []) (says.Rows (length due) ∷ []);
      answered = is;
    };
    only = λ number rows h. only number rows h;
  } where
    only : (number : ℕ) (rows : Answer) → IsHeldShown before select (opening ++ says.Rows number ∷ []) rows → (number ≡ length due) × (rows ≡ due)
    only number rows h =
        let there = acts_there number rows h in
        let answered : AnswersHeld select (before action).actors (before action).objects rows =
        subst (λ n. AnswersHeld select (before n).actors (before n).objects rows) (acts_once h.number action there.0 acts) h.answered in
        let same : rows ≡ due = one_answer select (held_rows select.table (before action).actors (before action).objects) rows due answered is in
        (there.1 ∙ ap length same, same)

  pub held_judged : (action : ℕ) (due answer : Answer) (number : ℕ) (part : List Entry) (result : Answered) → ActsAt opening action
      → AnswersHeld select (before action).actors (before action).objects due → part ≡ opening ++ says.Rows number ∷ []
      → IsCompared (length opening) number due answer result → IsJudged setting (IsAnswered setting content flags before) (Held select) part answer result
  held_judged action due answer number part result acts is part_is compared =
      judged setting (IsAnswered setting content flags before) (Held select) opening none number due answer part result part_is (λ at. tt) (due_held action due acts is) compared

  -- without an action none answers it
  pub unacted_judged : (number : ℕ) (answer : Answer) (part : List Entry) (at : ℕ) → ActsNowhere opening → part ≡ opening ++ says.Rows number ∷ [] → at ≡ length part - 1
      → IsFirstWrong setting (IsAnswered setting content flags before) (Held select) part answer at
  unacted_judged number answer part at never part_is at_is =
      let long : at ≡ length opening = let e : length part ≡ length opening + 1 = ap length part_is ∙ length-append opening (says.Rows number ∷ []) in omega (arith, e, at_is) in
      subst (λ z. IsFirstWrong setting (IsAnswered setting content flags before) (Held select) z answer at) (sym part_is)
      (subst (IsFirstWrong setting (IsAnswered setting content flags before) (Held select) (opening ++ says.Rows number ∷ []) answer) (sym long)
      (never_answered setting (IsAnswered setting content flags before) (Held select) opening none number answer (λ at. tt)
      (λ rows right. let there = acts_there number rows right in never right.number there.0)))
