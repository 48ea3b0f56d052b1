use Rattle.std.proofs.Common.{◌≤◌, ◌↔◌, drop, length}
use Rattle.pfs_journal.specs.Reports.{AreAnswered}
use Rattle.pfs_journal.proofs.checks.are_answered.Given as goal

abbrev pub invariant-loop-at : goal.invariant-loop-at
invariant-loop-at l = (l.place ≤ length l.answers) × (AreAnswered l.entries l.answers ↔ AreAnswered (drop l.at l.entries) (drop l.place l.answers))
