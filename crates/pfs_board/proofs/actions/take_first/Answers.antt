use Rattle.pfs_board.proofs.RowWaits.{waited_at, waited_outside}
use Rattle.pfs_board.proofs.actions.take_first.Goals as goal

pub try_enter-requires-clause-at : goal.try_enter-requires-clause-at
try_enter-requires-clause-at g c = let v = c.loop.invariant in waited_at _ _ _ _ _ _ c.requires.at v.2 v.3

pub try_enter-requires-clause-outside : goal.try_enter-requires-clause-outside
try_enter-requires-clause-outside g c = let v = c.loop.invariant in waited_outside _ _ v.3 c.requires.outside
