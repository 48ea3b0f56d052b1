use Rattle.std.specs.Prelude.{◌==◌, if◌then◌else◌}
use Rattle.pfs_admin.specs.declared.changes.Change.TheVariants.{Connect}
use Rattle.pfs_test_board.proofs.settlements.a_settlement_answers_what_found_no_place.Given as goal

-- the run is that of this setting and of these words
abbrev pub ghosts-settle_on_a_board : goal.ghosts-settle_on_a_board
ghosts-settle_on_a_board g a = record {
  setting = a.setting.now;
  change = λ label. if label.session == 2 then Connect 1 0 else Connect 0 1;
  switches = a.words.switches.id;
}
