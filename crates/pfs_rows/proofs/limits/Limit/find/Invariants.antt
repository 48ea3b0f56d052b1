use Rattle.std.proofs.Common.{◌≢◌, ◌<◌}
use Rattle.pfs_rows.specs.declared.limits.Limit.{Limit}
use Rattle.pfs_rows.specs.Limits.{order_of, limit_name}
use Rattle.pfs_rows.proofs.limits.Limit.find.Given as goal

-- no limit that was passed has the name
abbrev pub invariant-loop-limit : goal.invariant-loop-limit
invariant-loop-limit l = (d : Limit) → order_of d < l.limit-index → limit_name d ≢ l.name
