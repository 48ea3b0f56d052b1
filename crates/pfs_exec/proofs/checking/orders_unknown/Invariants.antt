use Rattle.std.proofs.Common.{◌≡◌, drop}
use Rattle.std.specs.List.{list_any}
use Rattle.pfs_exec.specs.Plans as spec
use Rattle.pfs_exec.proofs.checking.orders_unknown.Given as goal

-- what was passed is in order, so what is left decides
abbrev pub invariant-loop-order : goal.invariant-loop-order
invariant-loop-order l = list_any (λ order. spec.is_unknown l.table order.column) l.orders ≡ list_any (λ order. spec.is_unknown l.table order.column) (drop l.order-index l.orders)
