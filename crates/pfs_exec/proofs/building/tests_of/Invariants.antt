use Rattle.std.proofs.Common.{◌≡◌, map}
use Rattle.pfs_exec.specs.Plans as spec
use Rattle.pfs_exec.proofs.building.tests_of.Given as goal

abbrev pub invariant-loop-test : goal.invariant-loop-test
invariant-loop-test l = l.list.items ≡ map (spec.test_of l.table) l.yielded
