use Rattle.std.proofs.Common.{◌≡◌, drop, map}
use Rattle.pfs_exec.specs.Selections.{meets_all, value_of}
use Rattle.pfs_setups.proofs.meeting.meets_all.Given as goal

-- the conditions that were passed are met, so those that are left decide
abbrev pub invariant-loop-test : goal.invariant-loop-test
invariant-loop-test l = meets_all l.tests (map value_of l.row) ≡ meets_all (drop l.test-index l.tests) (map value_of l.row)
