use Rattle.std.proofs.Common.{◌≡◌, ◌≤◌, ◌+◌}
use Rattle.pfs_tickets.specs.Knowledge.{stake}
use Rattle.pfs_test_store.proofs.tickets.draw_often.Given as goal

abbrev pub invariant-loop : goal.invariant-loop
invariant-loop l = record {
  tickets : l.seat.tickets ≡ l.initial.seat.tickets;
  draws : 3000 ≤ l.seat.view.draws + l.counter;
  sum : stake l.seat.view ≡ stake l.initial.seat.view;
}
