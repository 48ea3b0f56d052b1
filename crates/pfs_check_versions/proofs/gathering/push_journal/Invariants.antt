use Rattle.std.proofs.Common.{◌+◌, ◌++◌, ◌≤◌, length, drop}
use Rattle.pfs_journal.specs.ReportLines.{journal_lines}
use Rattle.pfs_check_versions.specs.PlacedChanges.{changes_of, given_by}
use Rattle.pfs_check_versions.specs.PrintedEntries.{printed_entries}
use Rattle.pfs_check_versions.proofs.PrintedSteps.{Rests}
use Rattle.pfs_check_versions.proofs.gathering.push_journal.Given as goal

abbrev pub invariant-loop-at : goal.invariant-loop-at
invariant-loop-at l = record {
  rests : Rests (given_by l.what) l.changes.items l.spot.line
      (printed_entries l.spot.line l.phase l.block.session (drop l.at l.block.entries) (drop l.spot.answer l.block.answers))
      (length (journal_lines (drop l.at l.block.entries) (drop l.spot.answer l.block.answers)))
      (l.fn.changes.items ++ changes_of (given_by l.what) (printed_entries l.line l.phase l.block.session l.block.entries l.block.answers))
      (l.line + length (journal_lines l.block.entries l.block.answers));
  few : l.spot.answer ≤ l.at;
}
