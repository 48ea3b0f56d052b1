use Rattle.std.proofs.Common.{◌≡◌}
use Rattle.pfs_test_store.proofs.switches.load_often.Given as goal

abbrev pub invariant-loop : goal.invariant-loop
invariant-loop l = record {
  switches : l.seat.switches ≡ l.initial.seat.switches;
}
