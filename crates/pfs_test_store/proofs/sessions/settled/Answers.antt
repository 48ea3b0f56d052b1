use Rattle.std.proofs.Common.{◌∙◌, ap, arith, length}
use Rattle.pfs_session.specs.Settlements.{owed_by_state, settle_cost}
use Rattle.pfs_session.proofs.HeldAmounts.{settle_few}
use Rattle.pfs_test_store.proofs.sessions.settled.Goals as goal

pub pause-paused-requires-clause-affords : goal.pause-paused-requires-clause-affords
pause-paused-requires-clause-affords g c = record {
  left = omega (arith, c.requires.owed, c.requires.spare);
  draws = omega arith;
  room = omega (arith, settle_few (owed_by_state c.args.session.state), c.requires.owed, c.requires.room);
}

pub pause-again-requires-clause-affords : goal.pause-again-requires-clause-affords
pause-again-requires-clause-affords g c = record {
  left = omega (arith, ap length c.resume.ensures.owed);
  draws = omega arith;
  room = omega (arith, ap settle_cost c.resume.ensures.owed);
}

pub returns : goal.returns
returns g c = λ r. c.pause-again.ensures.used.hand r ∙ (c.pause-paused.ensures.used.hand r ∙ c.requires.hand r)
