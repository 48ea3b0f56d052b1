use Rattle.std.proofs.Common.{◌≡◌, ◌*◌, ◌≤◌, [], ◌∷◌, take, vec_capacity, vec_len}
use Rattle.std.specs.List.{flat_map}
use Rattle.pfs_matching.specs.declared.object_rows.ObjectKind.TheVariants.{Event, Function, Procedure, Table, Trigger}
use Rattle.pfs_matching.specs.ObjectRules.{opening_of_kind}
use Rattle.pfs_matching.proofs.object_rows.opening_rows.Given as goal

abbrev pub invariant-loop-kind : goal.invariant-loop-kind
invariant-loop-kind l = record {
  kinds : l.kind-items ≡ Event ∷ Function ∷ Procedure ∷ Table ∷ Trigger ∷ [];
  rows : l.rows.items ≡ flat_map opening_of_kind (take l.kind-index l.kind-items);
  size : vec_len l.rows ≡ 4 * l.kind-index;
  room : 100 ≤ vec_capacity l.rows;
}
