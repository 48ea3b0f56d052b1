use Rattle.std.proofs.Common.{length, ◌-◌, ◌≡◌, ◌≤◌, ◌+◌, drop}
use Rattle.pfs_script.specs.Marks.{written_out}
use Rattle.pfs_play.specs.Errands.{cost_on}
use Rattle.pfs_play.proofs.costs.written_cost.Given as goal

abbrev pub invariant-loop-at : goal.invariant-loop-at
invariant-loop-at l = record {
  count : l.at ≤ length l.lines;
  cost : cost_on (written_out l.lines) ≡ l.entries + cost_on (written_out (drop l.at l.lines));
  shorter : length (written_out (drop l.at l.lines)) ≤ 200000;
}

abbrev pub decreases-loop-at : goal.decreases-loop-at
decreases-loop-at l = length l.lines - l.at
