use Rattle.std.proofs.Common.{◌≡◌, ◌≤◌, ◌+◌, ◌*◌, drop}
use Rattle.pfs_play.specs.Errands.{cost_on}
use Rattle.pfs_play.proofs.costs.rounds_cost.Given as goal

abbrev pub invariant-loop-line : goal.invariant-loop-line
invariant-loop-line l = record {
  cost : cost_on l.body ≡ l.entries + cost_on (drop l.line-index l.body);
  few : l.entries ≤ 20196 * l.line-index;
}
