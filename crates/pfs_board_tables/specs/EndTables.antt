-- A report's tables at the end of a phase over a board, as its root reads them between two settlements.
use Rattle.std.specs.Prelude.{◌≡◌, ◌≤◌, ℕ, List, [], ◌∷◌, ◌++◌, All, map, slice_index}
use Rattle.std.specs.List.{flat_map}
use Rattle.atomic_table.specs.Seated.{TableId}
use Rattle.pfs_admin.specs.declared.changes.Change.{Change}
use Rattle.pfs_board.specs.History.{Each}
use Rattle.pfs_board.specs.Knowledge.{IsWhole}
use Rattle.pfs_board.specs.declared.view.Label.{Label}
use Rattle.pfs_board_admin.specs.LabelWords.{AllKeepWords, version_after}
use Rattle.pfs_board_root.specs.Readings.{HaveRead}
use Rattle.pfs_board_root.specs.Roots.{RootView}
use Rattle.pfs_board_store.specs.RootActors.{AreGathered, Worked, calls_of_all}
use Rattle.pfs_classes.specs.declared.setting.Setting.{Setting}
use Rattle.pfs_containers.specs.ContainerState.{lost_in}
use Rattle.pfs_containers.specs.declared.containers.Lost.{Lost}
use Rattle.pfs_finals.specs.Finals.{TableRead, all_readings, final_order, table_report}
use Rattle.pfs_journal.specs.declared.values.TableReport.{TableReport}
use Rattle.pfs_law_board.specs.EndReadings.{IsRead}
use Rattle.pfs_law_board.specs.PhaseEnds.{IsQuiet}
use Rattle.pfs_levels.specs.CallOrder.{AllCalls}
use Rattle.pfs_levels.specs.Calls.{Call, Meets}
use Rattle.pfs_reader.specs.Readings.{calls_of as calls_of_readings}
use Rattle.pfs_readsets.specs.ReadSets.{IsReadSet}
use Rattle.pfs_readsets.specs.TablePlaces.{scope_of}
use Rattle.pfs_tickets.specs.Knowledge.{IsWhole as HasAllDraws}

-- These are all calls of an actor: it read the tables of a report in their order, each its read set. The tables are
-- those that then have rows
pub record AreListed (setting : Setting) (tables : List TableReport) (calls : List Call) : Type 0 where
  pub each_read : List TableRead
  pub calls_are : calls ≡ calls_of_readings (all_readings each_read)
  pub order : map (λ (read : TableRead). read.table) each_read ≡ final_order
  pub sets : All (λ (read : TableRead). IsReadSet (scope_of setting) read.table read.readings) each_read
  pub tables_are : tables ≡ flat_map (table_report setting) each_read

-- The root read these tables, and did nothing else: its readings are one actor more of it, and all seats are still in
pub record HasReadAlone (setting : Setting) (flags : List ℕ) (tables : List TableReport) (old new : RootView) : Type 0 where
  pub reads : Worked
  pub read : HaveRead flags old new reads.start reads.calls
  pub listed : AreListed setting tables reads.calls
  pub gathered : (actors : List Worked) → AreGathered actors old.seat old.words old.draws
      → AreGathered (reads ∷ actors) new.seat new.words new.draws
  pub whole : IsWhole new.seat

-- what a root that read between two settlements keeps as it was
pub record HasStayed (old new : RootView) : Type 0 where
  pub board : new.board ≡ old.board
  pub switches : new.switches ≡ old.switches
  pub tickets : new.tickets ≡ old.tickets
  pub start : new.seat.start ≡ old.seat.start
  pub number : new.seat.number ≡ old.seat.number
  pub seats : new.seat.seats ≡ old.seat.seats
  pub allowance : new.seat.allowance ≡ old.seat.allowance
  pub draws : new.draws ≡ old.draws
  pub whole : IsWhole new.seat × HasAllDraws new.draws

-- an actor that met the writer of the setup words, and made no other call
pub record HasMet (w : Worked) : Type 0 where
  pub seen : List ℕ
  pub calls_are : w.calls ≡ Meets seen ∷ []

-- Behind these actors the root was told an end, read the tables of a report, and was told another end, which says what
-- was lost of containers. At each end it met the writer. What it did itself are actors more, under its own number, which changed nothing and kept to
-- their words; so no row was changed since the first end, and no word is seen at a version below it
pub record HasReadTables (setting : Setting) (change : Label → Change) (switches : TableId) (before : List Worked)
    (tables : List TableReport) (lost : Lost) (old new : RootView) : Type 0 where
  pub own : List Worked
  pub reads : Worked
  pub met : Worked
  pub read : IsRead setting change switches old.seat.start before own reads
  pub listed : AreListed setting tables reads.calls
  pub meets : Each HasMet (met ∷ own)
  pub lost_are : lost ≡ lost_in read.last.admin.kept.now
  pub gathered : AreGathered (met ∷ (reads ∷ (own ++ before))) new.seat new.words new.draws
  pub numbers : Each (λ (w : Worked). w.start.board.number ≡ old.seat.number) (met ∷ (reads ∷ own))
  pub quiet : AllCalls IsQuiet (calls_of_all (met ∷ (reads ∷ own)))
  pub keep : AllCalls (AllKeepWords (version_after setting change))
      (calls_of_all (met ∷ (reads ∷ (own ++ before))))
  pub made : new.seat.made ≡ read.first.seat.made
  pub seen : (at : ℕ) → slice_index read.first.pen.view.seen at ≤ slice_index new.words.seen at
  pub stayed : HasStayed old new
