use Rattle.std.proofs.Common.{length, ◌-◌, ◌≡◌, ◌≤◌, drop}
use Rattle.pfs_model.specs.Cuts.{behind}
use Rattle.pfs_check_parts.proofs.cuts.behind.Given as goal

abbrev pub invariant-skipping : goal.invariant-skipping
invariant-skipping l = record {
  same : behind l.ask (drop l.end l.entries) ≡ behind l.ask (drop l.at l.entries);
  within : l.end ≤ length l.entries;
  onward : l.at ≤ l.end;
}

abbrev pub decreases-skipping : goal.decreases-skipping
decreases-skipping l = length l.entries - l.end
