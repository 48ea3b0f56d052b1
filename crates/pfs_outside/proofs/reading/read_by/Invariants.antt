use Rattle.std.proofs.Common.{◌≡◌, length, ◌-◌, ◌+◌, ◌≤◌}
use Rattle.pfs_outside.specs.WholeStreams.{Took, piece_bytes}
use Rattle.pfs_outside.proofs.reading.read_by.Given as goal

abbrev pub invariant-loop-source : goal.invariant-loop-source
invariant-loop-source g l =
    (length l.piece ≡ piece_bytes) × Took g.S.Source.left g.S.Source.faults l.fn.source l.source l.bytes.items × (length l.bytes.items ≤ l.most + piece_bytes)

abbrev pub decreases-loop-source : goal.decreases-loop-source
decreases-loop-source g l = l.most + 1 - length l.bytes.items
