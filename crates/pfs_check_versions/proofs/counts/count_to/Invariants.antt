use Rattle.std.proofs.Common.{◌≤◌, length, take}
use Rattle.pfs_model.specs.Chains.{Each}
use Rattle.pfs_check_versions.specs.LinkTests.{AreCounted, IsBy}
use Rattle.pfs_check_versions.proofs.counts.count_to.Given as goal

abbrev pub invariant-loop-place : goal.invariant-loop-place
invariant-loop-place l = record {
  within : l.place ≤ length l.changes;
  counted : AreCounted l.counts (take l.place l.changes);
  low : Each (IsBy l.phase) (take l.place l.changes);
}
