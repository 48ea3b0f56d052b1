use Rattle.std.proofs.Common.{◌≡◌, ◌+◌, false, take}
use Rattle.pfs_law_report.specs.LostCounts.{lost_statements, lost_waits, unplaced_in}
use Rattle.pfs_law_report.proofs.DigestLosses.{behind_all}
use Rattle.pfs_law_report.proofs.counts.count_lost.Given as goal

abbrev pub invariant-loop-at : goal.invariant-loop-at
invariant-loop-at l = record {
  ends : l.ends ≡ behind_all false (take l.at l.entries.entries);
  digests : l.digests ≡ l.fn.so_far.digests + unplaced_in false (take l.at l.entries.entries);
  statements : l.statements ≡ l.fn.so_far.statements + lost_statements (take l.at l.entries.entries);
  waits : l.waits ≡ l.fn.so_far.waits + lost_waits (take l.at l.entries.entries);
}
