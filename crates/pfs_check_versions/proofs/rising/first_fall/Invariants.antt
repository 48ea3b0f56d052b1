use Rattle.pfs_check_versions.proofs.RisingSteps.{RisenSoFar}
use Rattle.pfs_check_versions.proofs.rising.first_fall.Given as goal

abbrev pub invariant-loop-place : goal.invariant-loop-place
invariant-loop-place l = RisenSoFar l.changes l.lasts l.place
