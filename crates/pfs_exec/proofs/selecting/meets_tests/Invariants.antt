use Rattle.std.proofs.Common.{◌≡◌, drop}
use Rattle.pfs_exec.specs.Selections.{meets_all}
use Rattle.pfs_exec.proofs.selecting.meets_tests.Given as goal

-- the conditions that were passed are met, so those that are left decide
abbrev pub invariant-loop-test : goal.invariant-loop-test
invariant-loop-test l = meets_all l.tests l.row ≡ meets_all (drop l.test-index l.tests) l.row
