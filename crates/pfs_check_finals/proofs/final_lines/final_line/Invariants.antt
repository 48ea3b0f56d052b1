use Rattle.std.proofs.Common.{◌≡◌, ◌+◌, length, take}
use Rattle.std.specs.List.{flat_map}
use Rattle.pfs_journal.specs.ReportLines.{block_lines}
use Rattle.pfs_check_finals.proofs.final_lines.final_line.Given as goal

abbrev pub invariant-loop-block : goal.invariant-loop-block
invariant-loop-block l = l.line ≡ l.from + length (flat_map block_lines (take l.block-index l.fn.report.blocks))
