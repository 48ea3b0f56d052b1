use Rattle.std.proofs.Common.{◌≡◌, ◌+◌, ◌∙◌, ◌∷◌, ap, drop, length, refl, subst, sym}
use Rattle.std.proofs.lemmas.List.{drop_more}
use Rattle.std.proofs.lemmas.Result.{IfOk-weaker}
use Rattle.pfs_runs.specs.SelectAnswers.{IsAnswered}
use Rattle.pfs_check_answers.specs.AnswerJudgements.{IsJudged}
use Rattle.pfs_check_answers.specs.BlockSelects.{IsAsked, IsBehind, selection_by, selection_of}
use Rattle.pfs_check_answers.proofs.LineSteps.{none_step, select_step}
use Rattle.pfs_check_answers.proofs.block_lines.judge_line.Goals as goal

pub returns-in_default : goal.returns-in_default
returns-in_default g c = λ all content flags before selections part parts knows shows is asked.
    let none = rw c.in_default.is at c.in_ok-asked.ensures in
    none_step all c.args.setting.now content flags before c.args.answers.now c.args.spot c.args.end selections part parts (selection_by c.args.text)
    (record { line = c.in_ok-line.line; start = c.args.end; answer = c.args.spot.answer }) none asked
    (c.in_ok-line.ensures ∙ ap (λ n. c.args.spot.line + n) (c.count_between-count.ensures ∙ ap length (sym is))) refl refl

pub returns : goal.returns
returns g c = λ all content flags before selections part parts knows shows is asked.
    let some = rw c.in-Some.is at c.in_ok-asked.ensures in
    let own : c.as_slice-entries.result.now ≡ part = c.as_slice-entries.ensures.value ∙ (c.in_ok-part.ensures ∙ sym is) in
    IfOk-weaker c.behind_select.result _ _
    (λ step behind.
    select_step all c.args.setting.now content flags before c.args.answers.now c.args.spot c.args.end selections part parts (selection_of c.in-Some.asked)
    (selection_by c.args.text) c.in-Some-get.answer.now c.in_ok-answered.answered step some asked
    (drop_more c.args.answers.now c.args.spot.answer c.in-Some-get.answer.now c.in-Some-get.ensures.lookup.3.0
    ∙ ap (λ z. z ∷ drop (c.args.spot.answer + 1) c.args.answers.now) (sym c.in-Some-get.ensures.lookup.1))
    (λ whole.
    subst (λ z. IsJudged c.args.setting.now (IsAnswered c.args.setting.now content flags before) (selection_of c.in-Some.asked) z c.in-Some-get.answer.now
    c.in_ok-answered.answered) own
    (c.in_ok-answered.ensures all content flags before knows shows
    (subst (λ z. IsAsked all (selection_of c.in-Some.asked) z c.in-Some-get.answer.now) (sym own) whole)))
    (subst (λ z. IsBehind c.in_ok-answered.answered c.args.spot c.args.end (length z) (length c.in-Some-get.answer.now) step) own behind))
    c.behind_select.ensures
