-- What stands under a phase's end, as the root of the board read it.
use Rattle.std.specs.Prelude.{◌≡◌, ℕ, List, All, map}
use Rattle.std.specs.List.{flat_map}
use Rattle.atomic_table.specs.Seated.{TableId}
use Rattle.pfs_admin.specs.declared.changes.Change.{Change}
use Rattle.pfs_board.specs.declared.view.Label.{Label}
use Rattle.pfs_board_store.specs.RootActors.{Worked, calls_of_all}
use Rattle.pfs_board_store.specs.RootLaws.{IsRunsBoard}
use Rattle.pfs_classes.specs.declared.setting.Setting.{Setting}
use Rattle.pfs_finals.specs.Counters.{counters, lost_row}
use Rattle.pfs_finals.specs.Finals.{TableRead, all_readings, final_order, table_report}
use Rattle.pfs_journal.specs.declared.report.PhaseParts.{PhaseParts}
use Rattle.pfs_law_board.specs.EndReadings.{IsRead}
use Rattle.pfs_law_board.specs.PhaseEnds.{AreAllBut}
use Rattle.pfs_law_plain.specs.RunRules.{entries_of}
use Rattle.pfs_law_plain.specs.Spells.{Spell}
use Rattle.pfs_law_shared.specs.Ends.{IsEnd}
use Rattle.pfs_law_shared.specs.Shares.{actors_of}
use Rattle.pfs_reader.specs.Readings.{calls_of as calls_of_readings}
use Rattle.pfs_readsets.specs.ReadSets.{IsReadSet}
use Rattle.pfs_readsets.specs.TablePlaces.{scope_of}
use Rattle.pfs_runs.specs.PhaseFinals.{lost_behind}

-- Behind these actors the root read the tables of the order, each its read set, and nothing else by that list of its
-- calls; they are the report's. Its counters are those of the administration that the root was lent then, and of the
-- events that the spells say were lost
pub record IsEndRead (setting : Setting) (change : Label → Change) (switches : TableId) (start : List ℕ)
    (before : List Worked) (spells : List Spell) (report : PhaseParts) : Type 0 where
  pub own : List Worked
  pub reads : Worked
  pub read : IsRead setting change switches start before own reads
  pub each_read : List TableRead
  pub calls : reads.calls ≡ calls_of_readings (all_readings each_read)
  pub order : map (λ (read : TableRead). read.table) each_read ≡ final_order
  pub sets : All (λ (read : TableRead). IsReadSet (scope_of setting) read.table read.readings) each_read
  pub tables : report.tables ≡ flat_map (table_report setting) each_read
  pub lost : report.lost
      ≡ flat_map (lost_row setting.classes (lost_behind read.last.admin.kept.now (entries_of spells))) counters

-- that is the end of these spells' phase, where they are all that the actors did
abbrev pub EndReadLaw : Type 0
EndReadLaw = (setting : Setting) (change : Label → Change) (switches : TableId) (start : List ℕ)
    (before : List Worked) (spells : List Spell) (report : PhaseParts) → IsRunsBoard start
    → AreAllBut (actors_of spells) (calls_of_all before)
    → IsEndRead setting change switches start before spells report → IsEnd setting change spells report
