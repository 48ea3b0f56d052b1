use Rattle.std.proofs.Common.{◌≡◌, drop}
use Rattle.std.specs.List.{list_any}
use Rattle.pfs_exec.specs.Plans as spec
use Rattle.pfs_exec.proofs.checking.tests_mistyped.Given as goal

-- what was passed is in order, so what is left decides
abbrev pub invariant-loop-test : goal.invariant-loop-test
invariant-loop-test l = spec.tests_mistyped l.table l.tests ≡ spec.tests_mistyped l.table (drop l.test-index l.tests)
