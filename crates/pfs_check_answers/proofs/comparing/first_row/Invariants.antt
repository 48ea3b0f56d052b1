use Rattle.std.proofs.Common.{◌≡◌, ◌≤◌, length, take}
use Rattle.pfs_check_answers.proofs.comparing.first_row.Given as goal

abbrev pub invariant-loop-at : goal.invariant-loop-at
invariant-loop-at l = record {
  alike : take l.at l.due ≡ take l.at l.printed;
  within : l.at ≤ length l.printed;
}
