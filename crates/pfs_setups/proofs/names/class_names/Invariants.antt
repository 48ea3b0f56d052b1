use Rattle.std.proofs.Common.{◌≡◌, map}
use Rattle.std.specs.List.{range_with_len}
use Rattle.pfs_setups.specs.SetupRows.{name_of_class}
use Rattle.pfs_setups.proofs.names.class_names.Given as goal

abbrev pub invariant-loop-id : goal.invariant-loop-id
invariant-loop-id l = l.names.items ≡ map (name_of_class l.classes) (range_with_len 0 l.id)
