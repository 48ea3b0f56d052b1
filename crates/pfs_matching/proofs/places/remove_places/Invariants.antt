use Rattle.std.proofs.Common.{◌≡◌, ◌≤◌, drop, length, vec_capacity}
use Rattle.pfs_matching.specs.KeyedRows.{without_named}
use Rattle.pfs_matching.proofs.places.remove_places.Given as goal

abbrev pub invariant-loop-left : goal.invariant-loop-left
invariant-loop-left g l = (l.rows.items ≡ without_named (drop l.left l.places) l.initial.rows.items) × (l.left ≤ length l.places) × (vec_capacity l.rows ≡ vec_capacity l.initial.rows)

abbrev pub decreases-loop-left : goal.decreases-loop-left
decreases-loop-left g l = l.left
