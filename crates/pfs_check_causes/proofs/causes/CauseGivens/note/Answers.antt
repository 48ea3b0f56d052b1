use Rattle.pfs_check_causes.proofs.causes.CauseGivens.note.Goals as goal

pub returns : goal.returns
returns c = λ places place phase session entry before. record {
  own = c.in_ok-note_own.ensures places place session entry before.own;
  free = c.in_ok-note.ensures places place phase entry before.free;
  puts = c.in_ok-note_put.ensures places place phase session entry before.puts;
}
