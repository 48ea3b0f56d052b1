use Rattle.std.proofs.Common.{◌≡◌, ◌+◌, length, take}
use Rattle.std.specs.List.{flat_map}
use Rattle.pfs_journal.specs.ReportLines.{block_lines}
use Rattle.pfs_check_line_numbers.proofs.EntryNumbers.{IsLeft}
use Rattle.pfs_check_line_numbers.proofs.searches.seek_blocks.Given as goal

abbrev pub invariant-loop-block : goal.invariant-loop-block
invariant-loop-block l = record {
  left : IsLeft block_lines l.fn.search l.rest l.blocks l.block-index;
  line : l.rest.line ≡ l.fn.search.line + length (flat_map block_lines (take l.block-index l.blocks));
}
