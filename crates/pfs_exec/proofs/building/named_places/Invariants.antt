use Rattle.std.proofs.Common.{◌≡◌, map, take}
use Rattle.pfs_exec.specs.Plans as spec
use Rattle.pfs_exec.proofs.building.named_places.Given as goal

abbrev pub invariant-loop-name : goal.invariant-loop-name
invariant-loop-name l = l.places.items ≡ map (spec.place_of l.table) (take l.name-index l.names)
