use Rattle.std.proofs.Common.{ℕ, subst}
use Rattle.pfs_check_line_numbers.specs.LineCounts.{Reaches}
use Rattle.pfs_check_line_numbers.proofs.LineSteps.{block_reaches}
use Rattle.pfs_check_line_numbers.proofs.line_counts.behind_block.Goals as goal

pub returns : goal.returns
returns c = subst (λ (z : ℕ). Reaches c.behind_entries.result z)
    (block_reaches c.args.report.now c.args.line c.in_ok-first.first c.count.result c.as_slice.result.now c.as_slice.ensures c.count.ensures c.in_ok-first.ensures)
    c.behind_entries.ensures
