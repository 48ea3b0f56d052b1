use Rattle.std.proofs.Common.{◌≤◌, ◌-◌, length}
use Rattle.pfs_check_tops.specs.SortedTops.{AreInOrder, Parts}
use Rattle.pfs_check_tops.proofs.tops.behind.Given as goal

abbrev pub invariant-loop-low : goal.invariant-loop-low
invariant-loop-low l = record {
  order : l.low ≤ l.high;
  within : l.high ≤ length l.tops;
  parts : AreInOrder l.tops → Parts l.tops l.row l.at l.low l.high;
}

abbrev pub decreases-loop-low : goal.decreases-loop-low
decreases-loop-low l = l.high - l.low
