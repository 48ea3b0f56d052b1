use Rattle.std.proofs.Common.{◌≡◌, take}
use Rattle.pfs_seats.specs.Seats.{depth_of}
use Rattle.pfs_seats.proofs.seats.lines_of.Given as goal

abbrev pub invariant-loop-phase : goal.invariant-loop-phase
invariant-loop-phase l = l.lines ≡ depth_of (take l.phase-index l.phases) l.number
