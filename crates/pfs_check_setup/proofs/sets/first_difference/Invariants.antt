use Rattle.pfs_check_setup.proofs.CompareFacts.{AlikeSoFar}
use Rattle.pfs_check_setup.proofs.sets.first_difference.Given as goal

abbrev pub invariant-loop-at : goal.invariant-loop-at
invariant-loop-at l = AlikeSoFar l.due l.printed l.at
