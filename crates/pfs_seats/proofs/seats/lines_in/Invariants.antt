use Rattle.std.proofs.Common.{◌≡◌, take}
use Rattle.pfs_seats.proofs.SessionLengths.{lines_own}
use Rattle.pfs_seats.proofs.seats.lines_in.Given as goal

abbrev pub invariant-loop-block : goal.invariant-loop-block
invariant-loop-block l = l.lines ≡ lines_own l.number (take l.block-index l.blocks)
