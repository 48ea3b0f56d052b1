-- A run over a board from one phase to the next: what its sessions may do there, and what that makes of it.
use Rattle.std.specs.Prelude.{ℕ, ◌≡◌, ◌≤◌, ◌<◌, ◌+◌, ◌*◌, List, [], ◌∷◌, ◌++◌, All, Option, length, map}
use Rattle.std.specs.List.{flat_map}
use Rattle.atomic_table.specs.Seated.{TableId}
use Rattle.pfs_admin.specs.declared.changes.Change.{Change}
use Rattle.pfs_board.specs.Knowledge.{IsWhole}
use Rattle.pfs_board.specs.declared.view.Label.{Label}
use Rattle.pfs_board_admin.specs.LabelWords.{AllKeepWords, version_after}
use Rattle.pfs_board_root.specs.Roots.{RootView}
use Rattle.pfs_board_run.specs.BoardRuns.{AllMayRun, HasRunPhase, share_of_each}
use Rattle.pfs_board_run.specs.declared.board.Ran.{Ran}
use Rattle.pfs_board_store.specs.RootActors.{AreGathered, Worked, calls_of_all}
use Rattle.pfs_board_tables.specs.EndTables.{HasReadTables}
use Rattle.pfs_classes.specs.declared.setting.Setting.{Setting}
use Rattle.pfs_containers.specs.declared.containers.Lost.{Lost}
use Rattle.pfs_finals.specs.Counters.{counters, lost_row}
use Rattle.pfs_journal.specs.Reports.{IsLost, IsPhase}
use Rattle.pfs_journal.specs.declared.blocks.BlockReport.{BlockReport}
use Rattle.pfs_journal.specs.declared.report.PhaseParts.{PhaseParts}
use Rattle.pfs_journal.specs.declared.values.TableReport.{TableReport}
use Rattle.pfs_law_report.specs.declared.counts.LostEvents.{LostEvents}
use Rattle.pfs_levels.specs.CallOrder.{AllCalls}
use Rattle.pfs_runs.specs.ScriptLines.{change_in}
use Rattle.pfs_script.specs.KnownClasses.{AreDistinct}
use Rattle.pfs_script.specs.Scripts.{IsScript}
use Rattle.pfs_script.specs.declared.blocks.Block.{Block}
use Rattle.pfs_script.specs.declared.blocks.Phase.{Phase}
use Rattle.pfs_session.specs.SessionStates.{Book}
use Rattle.pfs_tickets.specs.Knowledge.{IsWhole as HasAllDraws}
use Rattle.pfs_board_phase.specs.BetweenPhases.{IsBetweenPhases, counters_of}
use Rattle.pfs_board_phase.specs.PhaseResults.{AreCounted, AreFew, AreKept, AreReported, HasSeat}
use Rattle.pfs_board_phase.specs.TakenSeats.{AreTaken, emptied}

-- The sessions of these blocks may play them at once: each has a seat of its own and may play its block as it goes on
-- from there, the root has a share for each, and what they may lose can be counted
pub record MayPlayPhase (setting : Setting) (change : Label → Change) (phases : List Phase) (blocks : List Block)
    (root : RootView) (seats : List (Option Book)) (lost : LostEvents) : Type 0 where
  pub wide : length seats ≡ 64
  pub seated : All HasSeat blocks
  pub apart : AreDistinct (map (λ (block : Block). block.session) blocks)
  pub room : length blocks * share_of_each < root.seat.allowance
  pub tickets : length blocks * share_of_each ≤ root.draws.draws
  pub may : (books : List Book) → AreTaken setting.limits.statement_stack phases seats blocks books
      → AllMayRun setting change blocks books
  pub few : (books : List Book) (rans : List Ran) (mid : RootView)
      → AreTaken setting.limits.statement_stack phases seats blocks books
      → HasRunPhase setting setting change blocks books rans root mid → (length rans ≡ length blocks) × AreFew rans lost

-- they played them: they were taken from their seats, what they did is told and counted, and they wait there again
pub record HavePlayedPhase (setting : Setting) (change : Label → Change) (phases : List Phase) (blocks : List Block)
    (root mid : RootView) (seats kept : List (Option Book)) (lost events : LostEvents) (told : List BlockReport)
    : Type 0 where
  pub books : List Book
  pub taken : AreTaken setting.limits.statement_stack phases seats blocks books
  pub rans : List Ran
  pub ran : HasRunPhase setting setting change blocks books rans root mid
  pub reported : AreReported blocks rans told
  pub counted : AreCounted rans lost events
  pub seated : AreKept blocks rans (emptied seats blocks) kept

-- the report of the phase behind these: its blocks, its tables, and its counters
pub record IsReportOf (setting : Setting) (reports : List PhaseParts) (told : List BlockReport)
    (tables : List TableReport) (containers : Lost) (events : LostEvents) (report : PhaseParts) : Type 0 where
  pub number : report.number ≡ length reports + 1
  pub blocks : report.blocks ≡ told
  pub shown : report.tables ≡ tables
  pub counted : report.lost ≡ flat_map (lost_row setting.classes (counters_of containers events)) counters
  pub good : All IsLost report.lost

-- Behind such blocks the root may read the tables: it has all seats again, and has gathered the phase's actors. Once it
-- has read them, a report can have what they make, and the run is between two phases again
pub record IsPlayedPhase (setting : Setting) (phases : List Phase) (switches : TableId) (before : List Phase)
    (phase : Phase) (after : List Phase) (mid : RootView) (kept : List (Option Book)) (events : LostEvents)
    (reports : List PhaseParts) (told : List BlockReport) : Type 0 where
  pub whole : IsWhole mid.seat × HasAllDraws mid.draws
  pub wide : 17 * 14242 ≤ length mid.seat.start
  pub actors : List Worked
  pub gathered : AreGathered actors mid.seat mid.words mid.draws
  pub keeps : AllCalls (AllKeepWords (version_after setting (change_in phases))) (calls_of_all actors)
  pub good : (tables : List TableReport) (containers : Lost) (new : RootView) (report : PhaseParts)
      → HasReadTables setting (change_in phases) switches actors tables containers mid new
      → IsReportOf setting reports told tables containers events report → IsPhase report
  pub next : (tables : List TableReport) (containers : Lost) (new : RootView) (report : PhaseParts)
      (now : List PhaseParts) → HasReadTables setting (change_in phases) switches actors tables containers mid new
      → IsReportOf setting reports told tables containers events report → now ≡ reports ++ report ∷ []
      → IsBetweenPhases setting phases switches (before ++ phase ∷ []) after new kept events now

-- so of each phase of any script
abbrev pub BeginsLaw : Type 0
BeginsLaw = (text : List ℕ) (setting : Setting) (phases before : List Phase) (phase : Phase) (after : List Phase)
    (switches : TableId) (root : RootView) (seats : List (Option Book)) (lost : LostEvents) (reports : List PhaseParts)
    → IsScript text setting phases → phases ≡ before ++ phase ∷ after
    → IsBetweenPhases setting phases switches before (phase ∷ after) root seats lost reports
    → MayPlayPhase setting (change_in phases) phases phase.blocks root seats lost

abbrev pub PlayedLaw : Type 0
PlayedLaw = (text : List ℕ) (setting : Setting) (phases before : List Phase) (phase : Phase) (after : List Phase)
    (switches : TableId) (root mid : RootView) (seats kept : List (Option Book)) (lost events : LostEvents)
    (reports : List PhaseParts) (told : List BlockReport) → IsScript text setting phases
    → phases ≡ before ++ phase ∷ after
    → IsBetweenPhases setting phases switches before (phase ∷ after) root seats lost reports
    → HavePlayedPhase setting (change_in phases) phases phase.blocks root mid seats kept lost events told
    → IsPlayedPhase setting phases switches before phase after mid kept events reports told
