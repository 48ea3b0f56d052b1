use Rattle.std.proofs.Common.{arith}
use Rattle.pfs_test_store.proofs.sessions.connected_session.Goals as goal

pub connect-requires-clause-may : goal.connect-requires-clause-may
connect-requires-clause-may g c = record {
  few = omega (arith, c.requires.fresh.0);
  alone = λ r above. c.requires.hand r;
  lent = c.requires.words;
  affords = record { left = c.requires.left; draws = omega arith; room = omega (arith, c.in_ok-session.ensures.room) };
}
