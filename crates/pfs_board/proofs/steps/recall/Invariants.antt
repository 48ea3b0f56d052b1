use Rattle.std.proofs.Common.{◌≡◌, ℕ, ◌<◌, length, get_or}
use Rattle.pfs_board.specs.Knowledge.{corner, found_in}
use Rattle.pfs_board.proofs.steps.recall.Given as goal

abbrev pub invariant-loop-i : goal.invariant-loop-i
invariant-loop-i g l = record {
  table : l.seat.table_id ≡ l.initial.seat.table_id;
  me : l.seat.me ≡ l.initial.seat.me;
  wide : length l.content ≡ 16;
  copied : (j : ℕ) → j < l.i → get_or l.content j 0 ≡ get_or (found_in (corner l.initial.seat.me.0 l.row).stage) j 0;
}
