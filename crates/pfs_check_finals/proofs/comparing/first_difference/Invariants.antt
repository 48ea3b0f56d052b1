use Rattle.std.proofs.Common.{◌≡◌, take}
use Rattle.pfs_check_finals.proofs.comparing.first_difference.Given as goal

abbrev pub invariant-loop-at : goal.invariant-loop-at
invariant-loop-at g l = take l.at l.due ≡ take l.at l.printed
