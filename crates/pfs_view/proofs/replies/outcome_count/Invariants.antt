use Rattle.pfs_view.proofs.OutcomeSteps.{CountedSoFar}
use Rattle.pfs_view.proofs.replies.outcome_count.Given as goal

abbrev pub invariant-loop-place : goal.invariant-loop-place
invariant-loop-place l = CountedSoFar l.entries l.place l.count
