use Rattle.std.proofs.Common.{◌≡◌, ◌≤◌, ◌+◌, ℕ, None}
use Rattle.pfs_session.specs.Settlements.{owed_by_state}
use Rattle.pfs_test_store.proofs.sessions.looks.looked.Given as goal

abbrev pub invariant-loop-count : goal.invariant-loop-count
invariant-loop-count g l = record {
  hand : (r : ℕ) → (g.R.Readable.seen l.rows).hand r ≡ None;
  left : (g.R.Readable.seen l.fn.rows).left ≤ (g.R.Readable.seen l.rows).left;
  room : l.fn.session.journal.room ≤ l.session.journal.room + l.count;
  owed : owed_by_state l.session.state ≡ owed_by_state l.fn.session.state;
}
