use Rattle.std.proofs.Common.{length, ◌≡◌, ◌≤◌, drop}
use Rattle.pfs_model.specs.Cuts.{cut}
use Rattle.pfs_check_parts.proofs.cuts.cut_at.Given as goal

abbrev pub invariant-loop-item : goal.invariant-loop-item
invariant-loop-item l = record {
  same : cut (drop l.item-index l.items) (drop l.place l.entries) ≡ cut l.items (drop l.at l.entries);
  within : l.place ≤ length l.entries;
  onward : l.at ≤ l.place;
}
