use Rattle.pfs_check_moves.specs.DueMoves.{AreAsDue}
use Rattle.pfs_check_moves.specs.FoundTakes.{counted_in}
use Rattle.pfs_check_moves.proofs.comparing.first_miss.Given as goal

abbrev pub invariant-loop-at : goal.invariant-loop-at
invariant-loop-at l = AreAsDue l.shelf (counted_in l.found) l.at l.due l.printed
