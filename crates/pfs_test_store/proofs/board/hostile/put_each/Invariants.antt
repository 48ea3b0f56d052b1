use Rattle.std.proofs.Common.{◌≡◌, ◌+◌, ◌<◌}
use Rattle.pfs_board.specs.Knowledge.{held, IsWhole}
use Rattle.pfs_test_store.proofs.board.hostile.put_each.Given as goal

abbrev pub invariant-loop-row : goal.invariant-loop-row
invariant-loop-row l = record {
  board : l.root.board ≡ l.initial.root.board;
  whole : IsWhole l.root.view;
  held : held l.root.view.rows ≡ 0;
  allowance : 14242 < l.root.view.allowance + l.row;
}
