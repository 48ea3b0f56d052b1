-- What a run of a script over a board leaves in the seats of its root.
use Rattle.std.specs.Prelude.{◌≡◌, List}
use Rattle.pfs_admin.specs.OpeningState.{opening_flags}
use Rattle.pfs_board.specs.Knowledge.{IsWhole}
use Rattle.pfs_board_phase.specs.SeatNumbers.{AreNumbered, newest_tables}
use Rattle.pfs_board_store.specs.RootActors.{AreGathered, Worked}
use Rattle.pfs_board_store.specs.RootLaws.{IsRunsBoard}
use Rattle.pfs_board_store.specs.declared.rows.Seats.{Seats}
use Rattle.pfs_classes.specs.declared.setting.Setting.{Setting}
use Rattle.pfs_journal.specs.declared.report.ReportParts.{ReportParts}
use Rattle.pfs_law_plain.specs.Spells.{Spell}
use Rattle.pfs_law_script.specs.Course.{IsCourse, numbered}
use Rattle.pfs_law_script.specs.ReportSpells.{ArePhasesTold}
use Rattle.pfs_law_shared.specs.Shares.{actors_of}
use Rattle.pfs_matching.specs.ObjectRules.{opening_objects}
use Rattle.pfs_runs.specs.ScriptLines.{change_in}
use Rattle.pfs_script.specs.declared.blocks.Phase.{Phase}
use Rattle.pfs_seats.specs.Seats.{depth_of}
use Rattle.pfs_switches.specs.OpeningWords.{opening_words}
use Rattle.pfs_tickets.specs.Knowledge.{IsWhole as HasAllDraws}

-- The seats of a root behind the last phase: of tables that opened for a run of this setting, with no seat out. What
-- sessions did at the script's blocks, one after another, is what the report tells; and the seats have gained just what
-- these actors did: for each block one, whose board seat has the block's number; and the root itself, which has 0, read
-- the tables of each phase as the report shows them, and met the writer of the setup words
pub record HasRecorded (setting : Setting) (phases : List Phase) (report : ReportParts) (store : Seats) : Type 0 where
  pub board : IsRunsBoard store.board.view.start
  pub words : store.switches.view.start ≡ opening_words (opening_flags setting opening_objects)
  pub whole : IsWhole store.board.view × HasAllDraws store.tickets.view
  pub spells : List Spell
  pub course : IsCourse setting (change_in phases) (depth_of phases) (numbered 1 phases) spells
  pub told : ArePhasesTold setting 1 phases report.phases spells
  pub actors : List Worked
  pub by_number : AreNumbered setting (newest_tables report.phases) (actors_of spells) actors
  pub gathered : AreGathered actors store.board.view store.switches.view store.tickets.view
