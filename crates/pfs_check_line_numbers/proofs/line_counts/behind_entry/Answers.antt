use Rattle.std.proofs.Common.{◌∙◌, sym}
use Rattle.pfs_check_line_numbers.proofs.LineSteps.{behind_answered, behind_plain}
use Rattle.pfs_check_line_numbers.proofs.line_counts.behind_entry.Goals as goal

pub returns-then-not-is_answered-clause-same : goal.returns-then-not-is_answered-clause-same
returns-then-not-is_answered-clause-same c = λ rest. behind_plain c.args.spot _ c.args.entry.now rest c.args.answers.now
    (sym c.is_answered.ensures ∙ c.if-not-is_answered.true) c.in_ok-line.ensures

pub returns-clause-same : goal.returns-clause-same
returns-clause-same c = λ rest. behind_answered c.args.spot _ _ c.args.entry.now rest c.args.answers.now
    (sym c.is_answered.ensures ∙ c.if-not-is_answered.false) c.in_ok-line.ensures c.in_ok-line-2.ensures
