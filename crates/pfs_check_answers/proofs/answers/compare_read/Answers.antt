use Rattle.std.proofs.Common.{◌∷◌, map, subst}
use Rattle.std.proofs.lemmas.Result.{IfOk-weaker}
use Rattle.pfs_event.specs.declared.entry.Entry.TheVariants.{Query}
use Rattle.pfs_exec.specs.Selections.{IsAnswer}
use Rattle.pfs_session.specs.Inquiries.{reading_entry}
use Rattle.pfs_check_answers.proofs.StoredAnswers.{read_judged}
use Rattle.pfs_check_answers.proofs.answers.compare_read.Goals as goal

pub returns : goal.returns
returns c = λ content flags before shown read.
    IfOk-weaker c.compare_rows.result _ _
    (λ result compared.
    read_judged c.one_answer.ensures c.args.setting.now content flags before c.args.query.now c.args.readings.now c.in_ok-due.due c.args.answer.now read.number
    c.args.part.now result (record { whole = read.whole; shown = shown })
    (subst (λ z. IsAnswer c.args.query.now z c.in_ok-due.due) c.in_ok-rows.ensures.rows c.in_ok-due.ensures) read.told compared)
    (c.compare_rows.ensures (Query ∷ map reading_entry c.args.readings.now) read.number read.told)
