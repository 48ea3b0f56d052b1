use Rattle.std.proofs.Common.{◌≡◌, ◌+◌, ◌≤◌}
use Rattle.pfs_board.specs.Knowledge.{held, stake}
use Rattle.pfs_test_store.proofs.board.put_and_read.Given as goal

abbrev pub invariant-loop-i : goal.invariant-loop-i
invariant-loop-i l = record {
  board : l.seat.board ≡ l.initial.seat.board;
  held : held l.seat.view.rows ≡ 0;
  stake : stake l.seat.view ≡ stake l.initial.seat.view;
  allowance : 3000 ≤ l.seat.view.allowance + l.i;
  puts : l.puts ≤ l.i;
}
