use Rattle.std.proofs.Common.{◌≡◌, ◌/◌, length, take}
use Rattle.pfs_board.specs.declared.view.Stage.TheVariants.{Reading}
use Rattle.pfs_board.specs.Knowledge.{corner, turned, restaged}
use Rattle.pfs_board.proofs.steps.read_rest.Given as goal

abbrev pub invariant-loop-i : goal.invariant-loop-i
invariant-loop-i g l = record {
  table : l.seat.table_id ≡ l.initial.seat.table_id;
  me : l.seat.me ≡ (turned l.initial.seat.me.0 l.row (restaged (corner l.initial.seat.me.0 l.row) (Reading (l.first / 4) (take l.i l.content))), l.initial.seat.me.1);
  wide : length l.content ≡ 16;
}
