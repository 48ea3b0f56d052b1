use Rattle.std.proofs.Common.{length, ap, ◌∙◌}
use Rattle.pfs_board_phase.proofs.PhaseSteps.{all_each}
use Rattle.pfs_board_phase.proofs.TakenSeats.{emptied_long}
use Rattle.pfs_board_phase.proofs.phase.play_blocks.Goals as goal

pub keep_results-requires-clause-wide : goal.keep_results-requires-clause-wide
keep_results-requires-clause-wide g c = ap length c.in_ok-sessions.ensures.seats ∙ (emptied_long c.args.seats.now.items c.args.blocks.now ∙ c.requires.may.wide)

pub keep_results-requires-clause-seats : goal.keep_results-requires-clause-seats
keep_results-requires-clause-seats g c = all_each c.args.blocks.now c.requires.may.seated
