use Rattle.std.proofs.Common.{sym, ◌∙◌}
use Rattle.pfs_check_brought.specs.BroughtRules.{AreDuesJudged}
use Rattle.pfs_check_brought.specs.declared.judging.DueRule.TheVariants as dues
use Rattle.pfs_check_brought.proofs.WalkFacts.{line_found, line_there}
use Rattle.pfs_check_brought.proofs.judging.stop_line.Goals as goal

pub returns-in_ok-line-in-Some : goal.returns-in_ok-line-in-Some
returns-in_ok-line-in-Some c = λ case found same shape stops.
    line_found case found c.args.report.now c.args.stop c.in-Some.begins c.saturating_sub-lines.result c.in_ok-line-in-Some.line same stops
    (sym c.in-Some.is ∙ c.in_ok-place.ensures.found) c.saturating_sub-lines.ensures c.in_ok-line-in-Some.ensures

pub returns-in-None : goal.returns-in-None
returns-in-None c = λ case found same shape stops.
    line_there case found c.args.report.now c.args.stop (AreDuesJudged case found dues.Kept) same shape stops
    (sym c.in-None.is ∙ c.in_ok-place.ensures.found)
