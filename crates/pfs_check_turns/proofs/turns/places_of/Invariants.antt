use Rattle.std.proofs.Common.{◌≡◌, map, take}
use Rattle.pfs_check_turns.specs.ReplayTurns.{place_of}
use Rattle.pfs_check_turns.proofs.turns.places_of.Given as goal

abbrev pub invariant-loop-turn : goal.invariant-loop-turn
invariant-loop-turn l = l.places.items ≡ map place_of (take l.turn-index l.turns)
