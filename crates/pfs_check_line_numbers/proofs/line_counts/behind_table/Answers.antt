use Rattle.std.proofs.Common.{ℕ, subst}
use Rattle.pfs_check_line_numbers.specs.LineCounts.{Reaches}
use Rattle.pfs_check_line_numbers.proofs.LineSteps.{table_reaches}
use Rattle.pfs_check_line_numbers.proofs.line_counts.behind_table.Goals as goal

pub returns : goal.returns
returns c = subst (λ (z : ℕ). Reaches c.behind-2.result z)
    (table_reaches c.args.table.now c.as_slice.result.now c.args.line c.in_ok-first.first c.as_slice.ensures c.in_ok-first.ensures)
    c.behind-2.ensures
