use Rattle.std.proofs.Common.{◌≡◌, ◌+◌, ◌<◌, length, take, drop}
use Rattle.pfs_digest.specs.PieceBytes as spec
use Rattle.pfs_digest.proofs.printing.spelled.Given as goal

abbrev pub invariant-loop-piece : goal.invariant-loop-piece
invariant-loop-piece l =
    (l.out.items ≡ spec.spelled l.text (take (l.piece-index + 1) l.pieces)) × (l.others ≡ drop 1 l.pieces) × (0 < length l.pieces)
