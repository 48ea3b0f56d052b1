use Rattle.std.proofs.Common.{drop, sym, ◌∙◌, ap}
use Rattle.std.specs.Prelude.{if◌then◌else◌}
use Rattle.std.proofs.lemmas.List.{drop-drop}
use Rattle.pfs_check_versions.proofs.line_counts.answer_behind.Goals as goal

pub returns-then-is_answered-clause-left : goal.returns-then-is_answered-clause-left
returns-then-is_answered-clause-left c = λ answers.
    sym (drop-drop 1 c.args.answer answers)
    ∙ sym (ap (λ b. if b then drop 1 (drop c.args.answer answers) else drop c.args.answer answers) (sym c.is_answered.ensures ∙ c.if-is_answered.true))
