use Rattle.std.specs.Prelude.{◌==◌, if◌then◌else◌}
use Rattle.pfs_admin.specs.declared.changes.Change.TheVariants.{Connect, Quit, Truncate}
use Rattle.pfs_rows.specs.declared.table.SummaryTable.TheVariants.{ByThread}
use Rattle.pfs_rows.specs.declared.table.TableKind.TheVariants.{Waits}
use Rattle.pfs_rows.specs.declared.truncations.Truncation.TheVariants.{Summary}
use Rattle.pfs_test_board.proofs.sessions.a_session_records_is_truncated_and_quits.Given as goal

-- the run is that of this setting and of these words
abbrev pub ghosts-record_on_a_board : goal.ghosts-record_on_a_board
ghosts-record_on_a_board g a = record {
  setting = a.setting.now;
  change = λ label. if label.line == 1 then Connect 0 1 else if label.line == 2 then Truncate (Summary Waits ByThread) else Quit;
  switches = a.words.switches.id;
}
