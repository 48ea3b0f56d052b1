use Rattle.pfs_check_turns.proofs.TurnLists.{AlongSoFar}
use Rattle.pfs_check_turns.proofs.turns.turns_along.Given as goal

abbrev pub invariant-loop-step : goal.invariant-loop-step
invariant-loop-step l = AlongSoFar l.steps l.turns.items l.last l.step-index
