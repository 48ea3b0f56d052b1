use Rattle.std.proofs.Common.{◌≢◌, ◌<◌}
use Rattle.pfs_matching.specs.declared.object_rows.ObjectKind.{ObjectKind}
use Rattle.pfs_matching.specs.ObjectRules.{kind_name, kind_place}
use Rattle.pfs_matching.proofs.object_rows.ObjectKind.find.Given as goal

-- no kind that was passed has the name
abbrev pub invariant-loop-kind : goal.invariant-loop-kind
invariant-loop-kind l = (d : ObjectKind) → kind_place d < l.kind-index → kind_name d ≢ l.name
