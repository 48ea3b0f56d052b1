use Rattle.std.proofs.Common.{◌≡◌, ◌+◌, length, take}
use Rattle.std.specs.List.{flat_map}
use Rattle.pfs_journal.specs.ReportLines.{phase_lines}
use Rattle.pfs_check_line_numbers.proofs.EntryNumbers.{IsLeft}
use Rattle.pfs_check_line_numbers.proofs.searches.entry_line.Given as goal

abbrev pub invariant-loop-phase : goal.invariant-loop-phase
invariant-loop-phase l = record {
  left : IsLeft phase_lines (record { line = 2; left = l.place }) l.rest l.phases l.phase-index;
  line : l.rest.line ≡ 2 + length (flat_map phase_lines (take l.phase-index l.phases));
}
