use Rattle.std.proofs.Common.{◌≡◌, map, take}
use Rattle.pfs_sql.proofs.distinct.columns_of.Given as goal

abbrev pub invariant-sets : goal.invariant-sets
invariant-sets l = l.columns.items ≡ map (λ a. a.column) (take l.set-index l.sets)
