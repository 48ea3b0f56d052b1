use Rattle.std.proofs.Common.{◌<◌}
use Rattle.pfs_rows.specs.declared.limits.Limit.{Limit}
use Rattle.pfs_rows.specs.Limits.{order_of, IsWithin}
use Rattle.pfs_rows.proofs.limits.Layout.new.Given as goal

-- each limit that was passed is in its range
abbrev pub invariant-loop-limit : goal.invariant-loop-limit
invariant-loop-limit l = (d : Limit) → order_of d < l.limit-index → IsWithin l.limits d
