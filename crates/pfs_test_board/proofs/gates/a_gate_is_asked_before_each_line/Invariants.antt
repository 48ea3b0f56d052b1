use Rattle.std.specs.Prelude.{◌==◌, if◌then◌else◌}
use Rattle.pfs_admin.specs.declared.changes.Change.TheVariants.{Connect, Quit}
use Rattle.pfs_test_board.proofs.gates.a_gate_is_asked_before_each_line.Given as goal

-- the run is that of this setting and of these words
abbrev pub ghosts-play_before_a_gate : goal.ghosts-play_before_a_gate
ghosts-play_before_a_gate g a = record {
  setting = a.setting.now;
  change = λ label. if label.line == 1 then Connect 0 1 else Quit;
  switches = a.words.switches.id;
}
