use Rattle.pfs_check_versions.proofs.LinkSteps.{LinkedSoFar}
use Rattle.pfs_check_versions.proofs.links.link.Given as goal

abbrev pub invariant-loop-place : goal.invariant-loop-place
invariant-loop-place l = LinkedSoFar l.changes l.counts l.made l.next l.place
