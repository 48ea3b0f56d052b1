use Rattle.std.proofs.Common.{◌∙◌, arith}
use Rattle.pfs_test_store.proofs.sessions.record_often.Goals as goal

pub loop-time-preserved : goal.loop-time-preserved
loop-time-preserved g c = record {
  closed = c.record.ensures.closed;
  drawn = omega (arith, c.record.ensures.drawn, c.loop-time.invariant.drawn);
  owed = omega (arith, c.record.ensures.owed, c.loop-time.invariant.owed);
  hand = λ r. c.record.ensures.used.hand r ∙ c.loop-time.invariant.hand r;
  left = omega (arith, c.record.ensures.used.left, c.loop-time.invariant.left);
  draws = omega (arith, c.record.ensures.used.draws, c.loop-time.invariant.draws);
  room = omega (arith, c.record.ensures.used.room, c.loop-time.invariant.room);
}
