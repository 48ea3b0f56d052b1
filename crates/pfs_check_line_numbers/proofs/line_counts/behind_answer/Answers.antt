use Rattle.std.proofs.Common.{ℕ, ◌+◌, ◌∙◌, ap, length, subst}
use Rattle.pfs_check_line_numbers.specs.LineCounts.{Reaches}
use Rattle.pfs_check_line_numbers.proofs.LineSteps.{no_answer, one_answer}
use Rattle.pfs_check_line_numbers.proofs.line_counts.behind_answer.Goals as goal

pub returns-then-place-answers : goal.returns-then-place-answers
returns-then-place-answers c = no_answer c.args.answers.now c.args.place c.args.line c.if-place-answers.true

pub returns : goal.returns
returns c = subst (λ (z : ℕ). Reaches c.behind.result (c.args.line + z))
    (ap length c.as_slice.ensures ∙ one_answer c.args.answers.now c.args.place c.index-answers-place.result c.if-place-answers.false c.index-answers-place.is)
    c.behind.ensures
