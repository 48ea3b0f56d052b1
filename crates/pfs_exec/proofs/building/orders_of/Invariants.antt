use Rattle.std.proofs.Common.{◌≡◌, map, take}
use Rattle.pfs_exec.specs.Plans as spec
use Rattle.pfs_exec.proofs.building.orders_of.Given as goal

abbrev pub invariant-loop-order : goal.invariant-loop-order
invariant-loop-order l = l.list.items ≡ map (spec.order_of l.table) (take l.order-index l.order-items)
