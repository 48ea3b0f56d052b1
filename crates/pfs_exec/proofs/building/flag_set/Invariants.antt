use Rattle.std.proofs.Common.{◌≡◌, drop}
use Rattle.pfs_exec.specs.Plans as spec
use Rattle.pfs_exec.proofs.building.flag_set.Given as goal

-- what was passed sets another flag, so what is left decides
abbrev pub invariant-loop-set : goal.invariant-loop-set
invariant-loop-set l = spec.flag_set l.table l.flag l.sets ≡ spec.flag_set l.table l.flag (drop l.set-index l.sets)
