use Rattle.std.proofs.Common.{◌+◌, ◌++◌, length, drop}
use Rattle.std.specs.List.{flat_map}
use Rattle.pfs_journal.specs.ReportLines.{block_lines}
use Rattle.pfs_check_versions.specs.PlacedChanges.{changes_of, given_by}
use Rattle.pfs_check_versions.specs.PrintedEntries.{printed_blocks}
use Rattle.pfs_check_versions.proofs.PrintedSteps.{Rests}
use Rattle.pfs_check_versions.proofs.gathering.push_blocks.Given as goal

abbrev pub invariant-loop-block : goal.invariant-loop-block
invariant-loop-block l =
    Rests (given_by l.what) l.changes.items l.end (printed_blocks l.end l.phase (drop l.block-index l.blocks))
    (length (flat_map block_lines (drop l.block-index l.blocks)))
    (l.fn.changes.items ++ changes_of (given_by l.what) (printed_blocks l.line l.phase l.blocks))
    (l.line + length (flat_map block_lines l.blocks))
