use Rattle.std.proofs.Common.{◌≡◌, take}
use Rattle.pfs_board_phase.specs.TakenSeats.{AreTaken, emptied}
use Rattle.pfs_board_phase.proofs.sessions.take_sessions.Given as goal

abbrev pub invariant-loop-block : goal.invariant-loop-block
invariant-loop-block l = AreTaken l.setting.limits.statement_stack l.phases l.fn.seats.items (take l.block-index l.blocks) l.sessions.items × (l.seats.items ≡ emptied l.fn.seats.items (take l.block-index l.blocks))
