use Rattle.std.proofs.Common.{◌≡◌, take, vec_capacity}
use Rattle.pfs_matching.specs.KeyedRows.{with_named_changed}
use Rattle.pfs_matching.proofs.keyed_rows.change_places.Given as goal

abbrev pub invariant-loop-place : goal.invariant-loop-place
invariant-loop-place g l = (l.rows.items ≡ with_named_changed (g.R.KeyedRow.changed l.change) (take l.place-index l.places) l.initial.rows.items) × (vec_capacity l.rows ≡ vec_capacity l.initial.rows)
