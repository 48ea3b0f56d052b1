use Rattle.std.proofs.Common.{◌≡◌, List, ℕ, drop}
use Rattle.std.specs.List.{fold}
use Rattle.pfs_script.specs.Drafts.{with_owner}
use Rattle.pfs_script.specs.Headings.{resolved}
use Rattle.pfs_script.specs.SessionNames.{head_named}
use Rattle.pfs_script.proofs.heading.Heading.name_owners.Given as goal

abbrev pub invariant-loop-owner : goal.invariant-loop-owner
invariant-loop-owner l = record {
  named : head_named l.self (fold with_owner l.self.names (drop l.owner-index l.owners)) ≡ head_named l.fn.self (fold with_owner l.fn.self.names l.owners);
  same : (name : List ℕ) → resolved l.self name ≡ resolved l.fn.self name;
}
