use Rattle.std.proofs.Common.{◌≡◌, ◌+◌, ◌≤◌, false}
use Rattle.pfs_board.specs.Knowledge.{held, stake}
use Rattle.pfs_test_store.proofs.board.actions.register_lines.Given as goal

abbrev pub invariant-loop-line : goal.invariant-loop-line
invariant-loop-line g l = record {
  board : l.seat.board ≡ l.initial.seat.board;
  action : l.seat.view.action ≡ 0;
  lent : l.seat.view.lent ≡ false;
  held : held l.seat.view.rows ≡ 0;
  stake : stake l.seat.view ≡ stake l.initial.seat.view;
  allowance : 1000 ≤ l.seat.view.allowance + l.line;
}
