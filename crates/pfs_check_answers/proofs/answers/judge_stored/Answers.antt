use Rattle.std.proofs.Common.{◌∷◌, ◌++◌, [], ◌∙◌, ap, subst, sym}
use Rattle.std.specs.Prelude.{All}
use Rattle.pfs_event.specs.declared.entry.Entry.TheVariants.{Query, Rows}
use Rattle.pfs_readsets.proofs.EqualReadings.{rows_are_places}
use Rattle.pfs_readsets.specs.TablePlaces.{scope_of}
use Rattle.pfs_runs.specs.SelectAnswers.{IsAnswered, IsShown, Stored}
use Rattle.pfs_check_answers.specs.AnswerJudgements.{IsFirstWrong}
use Rattle.pfs_check_answers.specs.SelectParts.{IsReadAs}
use Rattle.pfs_check_answers.specs.SelectReadings.{IsMisread, NamesHad}
use Rattle.pfs_check_answers.proofs.StoredAnswers.{all_between, misread_judged}
use Rattle.pfs_check_answers.proofs.answers.judge_stored.Goals as goal

pub returns-in_ok-place-in-Misread : goal.returns-in_ok-place-in-Misread
returns-in_ok-place-in-Misread g c = λ all content flags before knows part named.
    let between = c.between-entries.ensures part.readings part.number part.told in
    let walk = rw c.in-Misread.is at c.in_ok-walked.ensures.walked in
    let missed : IsMisread (scope_of c.args.setting.now) c.args.query.now.table part.readings c.in-Misread.at =
    subst (λ z. IsMisread (scope_of c.args.setting.now) c.args.query.now.table z c.in-Misread.at) between walk in
    subst (IsFirstWrong c.args.setting.now (IsAnswered c.args.setting.now content flags before) (Stored c.args.query.now) c.args.part.now c.args.answer.now)
    (sym c.in_ok-place-in-Misread.ensures)
    (misread_judged c.one_answer.ensures c.args.setting.now content flags before c.args.query.now
    (rows_are_places c.rows.ensures.found c.rows.ensures.back) part.readings part.number c.in-Misread.at c.args.answer.now c.args.part.now missed part.each part.told)

pub returns-in-Whole : goal.returns-in-Whole
returns-in-Whole g c = λ all content flags before knows part named.
    let between = c.between-entries.ensures part.readings part.number part.told in
    let walk = rw c.in-Whole.is at c.in_ok-walked.ensures.walked in
    let each = subst (All (NamesHad all)) (sym between) (all_between (NamesHad all) c.args.part.now part.readings part.number part.told named) in
    let shown = rw c.in-Whole.is at (c.in_ok-walked.ensures.shown all content flags knows each) in
    c.compare_read.ensures content flags before (subst (All (IsShown content flags)) (sym c.as_slice.ensures.value) shown)
    (subst (λ z. IsReadAs c.args.setting.now c.args.query.now z c.args.part.now) (sym c.as_slice.ensures.value) (record {
      whole = walk.whole;
      number = part.number;
      told = part.told ∙ ap (λ z. Query ∷ (z ++ Rows part.number ∷ [])) (sym between ∙ sym walk.told);
    }))
