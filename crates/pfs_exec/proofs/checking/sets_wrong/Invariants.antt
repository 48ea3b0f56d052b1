use Rattle.std.proofs.Common.{◌≡◌, drop}
use Rattle.std.specs.List.{list_any}
use Rattle.pfs_exec.specs.Plans as spec
use Rattle.pfs_exec.proofs.checking.sets_wrong.Given as goal

-- what was passed is in order, so what is left decides
abbrev pub invariant-loop-set : goal.invariant-loop-set
invariant-loop-set l = list_any (spec.is_wrong_set l.table) l.sets ≡ list_any (spec.is_wrong_set l.table) (drop l.set-index l.sets)
