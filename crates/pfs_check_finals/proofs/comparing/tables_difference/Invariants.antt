use Rattle.pfs_check_finals.proofs.DueTables.{AreSame}
use Rattle.pfs_check_finals.proofs.comparing.tables_difference.Given as goal

abbrev pub invariant-loop-at : goal.invariant-loop-at
invariant-loop-at l = AreSame l.first l.due l.printed l.at l.line
