use Rattle.pfs_admin.specs.declared.changes.Change.TheVariants.{Quit}
use Rattle.pfs_test_board.proofs.refusals.a_row_in_another_hand_is_refused_and_a_late_event.Given as goal

-- the run is that of this setting and of these words
abbrev pub ghosts-refuse_on_a_board : goal.ghosts-refuse_on_a_board
ghosts-refuse_on_a_board g a = record {
  setting = a.setting.now;
  change = λ label. Quit;
  switches = a.words.switches.id;
}
