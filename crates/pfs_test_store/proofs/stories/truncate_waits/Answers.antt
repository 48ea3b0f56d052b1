use Rattle.std.proofs.Common.{arith}
use Rattle.pfs_test_store.proofs.stories.truncate_waits.Goals as goal

pub connect-rows-requires-clause-between : goal.connect-rows-requires-clause-between
connect-rows-requires-clause-between g c = record { begun = c.requires.begun; wide = c.requires.wide; idle = c.requires.idle; lent = c.requires.lent }

pub connect-rows-requires-clause-affords : goal.connect-rows-requires-clause-affords
connect-rows-requires-clause-affords g c = record {
  left = omega (arith, c.requires.spare);
  draws = omega arith;
  room = omega (arith, c.requires.room);
}
