use Rattle.std.proofs.Common.{◌≡◌, ◌≤◌, ◌+◌, ◌*◌, ℕ, [], length}
use Rattle.pfs_session.specs.Settlements.{owed_by_state}
use Rattle.pfs_test_store.proofs.sessions.record_often.Given as goal

abbrev pub invariant-loop-time : goal.invariant-loop-time
invariant-loop-time g l = record {
  closed : l.session.state.opened ≡ record { depth = 1; events = [] };
  drawn : l.session.state.drawn ≤ l.time-index;
  owed : length (owed_by_state l.session.state) ≤ length (owed_by_state l.fn.session.state) + 2 * l.time-index;
  hand : (r : ℕ) → (g.R.Readable.seen l.rows).hand r ≡ (g.R.Readable.seen l.fn.rows).hand r;
  left : (g.R.Readable.seen l.fn.rows).left ≤ (g.R.Readable.seen l.rows).left + 6 * l.time-index;
  draws : (g.R.Readable.seen l.fn.rows).draws ≤ (g.R.Readable.seen l.rows).draws + l.time-index;
  room : l.fn.session.journal.room ≤ l.session.journal.room + 8 * l.time-index;
}
