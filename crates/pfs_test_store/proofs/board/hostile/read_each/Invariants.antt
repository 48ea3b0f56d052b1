use Rattle.std.proofs.Common.{◌≡◌, ◌≤◌}
use Rattle.pfs_board.specs.Knowledge.{held, IsWhole}
use Rattle.pfs_test_store.proofs.board.hostile.read_each.Given as goal

abbrev pub invariant-loop-row : goal.invariant-loop-row
invariant-loop-row l = record {
  board : l.root.board ≡ l.initial.root.board;
  whole : IsWhole l.root.view;
  held : held l.root.view.rows ≡ 0;
  count : l.whole ≤ l.row;
}
