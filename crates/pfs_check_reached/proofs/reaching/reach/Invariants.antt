use Rattle.pfs_check_reached.specs.ReachedChanges.{IsWalked}
use Rattle.pfs_check_reached.proofs.reaching.reach.Given as goal

abbrev pub invariant-loop-turn : goal.invariant-loop-turn
invariant-loop-turn l = IsWalked l.changes l.walk l.walk.ready.items
