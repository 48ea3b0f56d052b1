use Rattle.std.proofs.Common.{◌≡◌, ◌≤◌, drop, length, vec_capacity}
use Rattle.std.specs.Vec.Iter.{into_iter_items, into_iter_len}
use Rattle.pfs_board_phase.proofs.ResultLoops.{LeftToKeep}
use Rattle.pfs_board_phase.proofs.results.keep_results.Given as goal

abbrev pub invariant-loop-block : goal.invariant-loop-block
invariant-loop-block l = LeftToKeep l.blocks (drop l.block-index l.blocks) l.fn.rans.items (into_iter_items l.rans) l.fn.seats.items l.seats.items l.fn.lost l.lost l.told.items
    × (into_iter_len l.rans ≡ length (into_iter_items l.rans))
    × (length l.blocks ≤ vec_capacity l.told)
