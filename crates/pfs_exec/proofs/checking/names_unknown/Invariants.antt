use Rattle.std.proofs.Common.{◌≡◌, drop}
use Rattle.std.specs.List.{list_any}
use Rattle.pfs_exec.specs.Plans as spec
use Rattle.pfs_exec.proofs.checking.names_unknown.Given as goal

-- what was passed is in order, so what is left decides
abbrev pub invariant-loop-name : goal.invariant-loop-name
invariant-loop-name l = list_any (spec.is_unknown l.table) l.names ≡ list_any (spec.is_unknown l.table) (drop l.name-index l.names)
