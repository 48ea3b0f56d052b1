use Rattle.std.proofs.Common.{◌≡◌, take}
use Rattle.pfs_board.specs.declared.view.Stage.TheVariants.{Holding}
use Rattle.pfs_board.specs.Knowledge.{corner, turned, restaged, version_held, found_in}
use Rattle.pfs_board.proofs.steps.put_by.Given as goal

abbrev pub invariant-loop-i : goal.invariant-loop-i
invariant-loop-i g l = record {
  table : l.seat.table_id ≡ l.initial.seat.table_id;
  me : l.seat.me ≡ (turned l.initial.seat.me.0 l.row (restaged (corner l.initial.seat.me.0 l.row) (Holding (version_held (corner l.initial.seat.me.0 l.row).stage) (found_in (corner l.initial.seat.me.0 l.row).stage) (take l.i l.content))), l.initial.seat.me.1);
}
