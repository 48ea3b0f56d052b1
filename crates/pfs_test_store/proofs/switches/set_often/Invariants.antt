use Rattle.std.proofs.Common.{◌≡◌}
use Rattle.pfs_test_store.proofs.switches.set_often.Given as goal

abbrev pub invariant-loop-i : goal.invariant-loop-i
invariant-loop-i l = record {
  switches : l.writer.switches ≡ l.initial.writer.switches;
}
