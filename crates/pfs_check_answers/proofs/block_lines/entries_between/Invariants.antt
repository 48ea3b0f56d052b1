use Rattle.std.proofs.Common.{◌≡◌, drop, take}
use Rattle.pfs_check_answers.proofs.block_lines.entries_between.Given as goal

abbrev pub invariant-loop-step : goal.invariant-loop-step
invariant-loop-step l = l.part.items ≡ take l.step (drop l.start l.entries)
