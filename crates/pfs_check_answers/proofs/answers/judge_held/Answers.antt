use Rattle.std.proofs.lemmas.Result.{IfOk-weaker}
use Rattle.pfs_check_answers.proofs.HeldAnswers.{held_judged, unacted_judged}
use Rattle.pfs_check_answers.proofs.answers.judge_held.Goals as goal

pub returns-in_default : goal.returns-in_default
returns-in_default g c = λ content flags before knows part.
    unacted_judged c.one_answer.ensures c.args.setting.now content flags before c.args.query.now part.opening part.none part.number c.args.answer.now c.args.part.now
    c.last_place.result (c.in_default.ensures part.opening part.number part.told) part.told c.last_place.ensures

pub returns : goal.returns
returns g c = λ content flags before knows part.
    IfOk-weaker c.compare_rows.result _ _
    (λ result compared.
    held_judged c.one_answer.ensures c.args.setting.now content flags before c.args.query.now part.opening part.none c.in-Some.number c.in_ok-due.due
    c.args.answer.now part.number c.args.part.now result (c.in-Some.ensures part.opening part.number part.told) (c.in_ok-due.ensures before knows) part.told compared)
    (c.compare_rows.ensures part.opening part.number part.told)
