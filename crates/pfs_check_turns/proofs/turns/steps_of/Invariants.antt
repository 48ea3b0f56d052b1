use Rattle.pfs_check_turns.proofs.StepLists.{ListedSoFar}
use Rattle.pfs_check_turns.proofs.turns.steps_of.Given as goal

abbrev pub invariant-loop-place : goal.invariant-loop-place
invariant-loop-place l = ListedSoFar l.changes l.steps.items l.place
