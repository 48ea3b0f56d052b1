use Rattle.std.proofs.Common.{◌≡◌}
use Rattle.pfs_board.specs.ActionKnowledge.{HasWaited}
use Rattle.pfs_board.proofs.actions.take_first.Given as goal

abbrev pub invariant-loop : goal.invariant-loop
invariant-loop g l = (goal.iterator-loop g).can_next l.iterator'
    × (goal.iterator-loop g).is_finite l.iterator'
    × (l.seat.table_id ≡ l.initial.seat.table_id)
    × HasWaited l.initial.seat.me.0 l.seat.me.0
    × (l.seat.me.1 ≡ l.initial.seat.me.1)
