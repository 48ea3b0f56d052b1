use Rattle.std.proofs.Common.{◌≡◌, ◌≤◌, length, drop, reverse}
use Rattle.pfs_check_facts.specs.Closings.{AreClosings, facts_along}
use Rattle.pfs_check_facts.proofs.closings.facts_along.Given as goal

abbrev pub invariant-loop-place : goal.invariant-loop-place
invariant-loop-place l = record {
  within : l.place ≤ length l.moments;
  closings : AreClosings (drop l.place l.moments) l.closings;
  facts : reverse l.facts.items ≡ facts_along (drop l.place l.moments);
}

abbrev pub decreases-loop-place : goal.decreases-loop-place
decreases-loop-place l = l.place
