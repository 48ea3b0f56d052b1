use Rattle.pfs_view.proofs.OutcomeSteps.{OutcomesSoFar}
use Rattle.pfs_view.proofs.replies.outcomes_of.Given as goal

abbrev pub invariant-loop-place : goal.invariant-loop-place
invariant-loop-place l = OutcomesSoFar l.entries l.place l.answers l.outcomes.items
