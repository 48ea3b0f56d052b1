use Rattle.std.proofs.Common.{ℕ, subst}
use Rattle.pfs_check_line_numbers.specs.LineCounts.{Reaches}
use Rattle.pfs_check_line_numbers.proofs.LineSteps.{results_reach}
use Rattle.pfs_check_line_numbers.proofs.line_counts.behind_results.Goals as goal

pub returns : goal.returns
returns c = subst (λ (z : ℕ). Reaches c.behind-2.result z)
    (results_reach c.args.report.now c.as_slice.result.now c.as_slice-2.result.now c.args.line c.in_ok-first.first c.in_ok-lost.lost
    c.as_slice.ensures c.as_slice-2.ensures c.in_ok-first.ensures c.in_ok-lost.ensures)
    c.behind-2.ensures
