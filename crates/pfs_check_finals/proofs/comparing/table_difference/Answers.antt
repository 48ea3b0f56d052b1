use Rattle.std.proofs.Common.{suc, arith, subst}
use Rattle.pfs_check_finals.specs.Differences.{DifferAt}
use Rattle.pfs_check_finals.proofs.ListDifferences.{same_names, table_rows_differ}
use Rattle.pfs_check_finals.proofs.comparing.table_difference.Goals as goal

pub returns-in_ok-line-in-Some : goal.returns-in_ok-line-in-Some
returns-in_ok-line-in-Some c = (
  suc c.in-Some.at,
  omega (arith, c.in_ok-line-in-Some.ensures, c.in_ok-rows-in-Some.ensures),
  λ dues prints.
      table_rows_differ c.args.due.now c.args.printed.now dues prints c.in-Some.at
      (same_names c.args.due.now.name c.args.printed.now.name c.ne.result c.ne.ensures c.if-ne.false)
      (subst (λ z. DifferAt z c.args.printed.now.rows c.in-Some.at) c.as_slice.ensures
      (subst (λ z. DifferAt c.as_slice.result.now z c.in-Some.at) c.as_slice-2.ensures (rw c.in-Some.is at c.first_difference-found.ensures))),
)
