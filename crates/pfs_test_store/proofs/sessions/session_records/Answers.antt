use Rattle.std.proofs.Common.{◌∙◌, arith}
use Rattle.pfs_test_store.proofs.sessions.session_records.Goals as goal

pub record_often-requires-clause-affords : goal.record_often-requires-clause-affords
record_often-requires-clause-affords g c = record {
  left = omega (arith, c.connected_session.ensures.left, c.requires.spare.0);
  draws = omega (arith, c.connected_session.ensures.draws, c.requires.spare.1);
  room = omega (arith, c.in_ok-session.ensures.session);
}

pub settled-log-requires-clause-hand : goal.settled-log-requires-clause-hand
settled-log-requires-clause-hand g c = λ r. c.record_often.ensures.hand r ∙ c.connected_session.ensures.hand r

pub read-requires-clause-away : goal.read-requires-clause-away
read-requires-clause-away g c = c.settled-log.ensures c.args.row
