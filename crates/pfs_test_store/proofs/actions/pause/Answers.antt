use Rattle.std.proofs.Common.{arith}
use Rattle.pfs_session.specs.Settlements.{owed_by_state}
use Rattle.pfs_session.proofs.HeldAmounts.{settle_few}
use Rattle.pfs_test_store.proofs.actions.pause.Goals as goal

pub pause-requires-clause-affords : goal.pause-requires-clause-affords
pause-requires-clause-affords g c = record {
  left = omega (arith, c.requires.owed, c.requires.spare, c.new-hold.ensures.left);
  draws = omega arith;
  room = omega (arith, settle_few (owed_by_state c.args.session.state), c.requires.owed, c.requires.room);
}
