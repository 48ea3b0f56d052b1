use Rattle.std.proofs.Common.{◌≡◌, drop}
use Rattle.std.specs.List.{list_any}
use Rattle.pfs_exec.specs.Plans as spec
use Rattle.pfs_exec.proofs.checking.tests_unknown.Given as goal

-- what was passed is in order, so what is left decides
abbrev pub invariant-loop-test : goal.invariant-loop-test
invariant-loop-test l = spec.tests_unknown l.table l.tests ≡ spec.tests_unknown l.table (drop l.test-index l.tests)
