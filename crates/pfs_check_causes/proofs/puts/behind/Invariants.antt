use Rattle.std.proofs.Common.{◌≤◌, ◌-◌, length}
use Rattle.pfs_check_causes.specs.TicketPuts.{ArePhased, Parts}
use Rattle.pfs_check_causes.proofs.puts.behind.Given as goal

abbrev pub invariant-loop-low : goal.invariant-loop-low
invariant-loop-low l = record {
  order : l.low ≤ l.high;
  within : l.high ≤ length l.tops;
  parts : ArePhased l.tops → Parts l.tops l.phase l.low l.high;
}

abbrev pub decreases-loop-low : goal.decreases-loop-low
decreases-loop-low l = l.high - l.low
