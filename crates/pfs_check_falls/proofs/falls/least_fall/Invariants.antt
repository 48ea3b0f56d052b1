use Rattle.pfs_check_falls.proofs.FirstFalls.{SeenSoFar}
use Rattle.pfs_check_falls.proofs.falls.least_fall.Given as goal

abbrev pub invariant-loop-next : goal.invariant-loop-next
invariant-loop-next l = SeenSoFar l.deeds l.next-index l.floor l.last l.least
