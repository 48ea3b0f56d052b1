-- What a phase's code asks of the laws, in a run that changes what its phases say.
use Rattle.std.proofs.Common.{ℕ, ◌≡◌, ◌∷◌, ◌++◌, List, Option, sym, subst}
use Rattle.atomic_table.specs.Seated.{TableId}
use Rattle.pfs_admin.specs.declared.changes.Change.{Change}
use Rattle.pfs_board.specs.declared.view.Label.{Label}
use Rattle.pfs_board_admin.specs.LabelWords.{AllKeepWords, version_after}
use Rattle.pfs_board_root.specs.Roots.{RootView}
use Rattle.pfs_board_store.specs.RootActors.{AreGathered, Worked, calls_of_all}
use Rattle.pfs_board_tables.specs.EndTables.{HasReadTables}
use Rattle.pfs_classes.specs.declared.setting.Setting.{Setting}
use Rattle.pfs_containers.specs.declared.containers.Lost.{Lost}
use Rattle.pfs_journal.specs.declared.blocks.BlockReport.{BlockReport}
use Rattle.pfs_journal.specs.declared.report.PhaseParts.{PhaseParts}
use Rattle.pfs_journal.specs.declared.values.TableReport.{TableReport}
use Rattle.pfs_law_report.specs.declared.counts.LostEvents.{LostEvents}
use Rattle.pfs_levels.specs.CallOrder.{AllCalls}
use Rattle.pfs_runs.specs.ScriptLines.{change_in}
use Rattle.pfs_script.specs.Scripts.{IsScript}
use Rattle.pfs_script.specs.declared.blocks.Block.{Block}
use Rattle.pfs_script.specs.declared.blocks.Phase.{Phase}
use Rattle.pfs_session.specs.SessionStates.{Book}
use Rattle.pfs_board_phase.specs.BetweenPhases.{IsBetweenPhases}
use Rattle.pfs_board_phase.specs.PhaseLaws.{BeginsLaw, HavePlayedPhase, IsPlayedPhase, MayPlayPhase, PlayedLaw}

module _ (text : List ℕ) (setting : Setting) (phases before : List Phase) (phase : Phase) (after : List Phase) (switches : TableId) (root : RootView) (seats : List (Option Book)) (lost : LostEvents) (reports : List PhaseParts)
    (script : IsScript text setting phases) (parted : phases ≡ before ++ phase ∷ after) (between : IsBetweenPhases setting phases switches before (phase ∷ after) root seats lost reports)
    (change : Label → Change) (blocks : List Block) (what : change ≡ change_in phases) (those : blocks ≡ phase.blocks) where
  pub may_play : BeginsLaw → MayPlayPhase setting change phases blocks root seats lost
  may_play law =
      subst (λ (c : Label → Change). MayPlayPhase setting c phases blocks root seats lost) (sym what)
      (subst (λ (z : List Block). MayPlayPhase setting (change_in phases) phases z root seats lost) (sym those) (law text setting phases before phase after switches root seats lost reports script parted between))

  pub is_played : PlayedLaw → (mid : RootView) (kept : List (Option Book)) (events : LostEvents) (told : List BlockReport) → HavePlayedPhase setting change phases blocks root mid seats kept lost events told
      → IsPlayedPhase setting phases switches before phase after mid kept events reports told
  is_played law mid kept events told p =
      law text setting phases before phase after switches root mid seats kept lost events reports told script parted between
      (subst (λ (z : List Block). HavePlayedPhase setting (change_in phases) phases z root mid seats kept lost events told) those (subst (λ (c : Label → Change). HavePlayedPhase setting c phases blocks root mid seats kept lost events told) what p))

-- behind any actors that were gathered
pub has_read : (setting : Setting) (change other : Label → Change) (switches : TableId) (tables : List TableReport) (containers : Lost) (old new : RootView) → change ≡ other
    → ((actors : List Worked) → AreGathered actors old.seat old.words old.draws → AllCalls (AllKeepWords (version_after setting change)) (calls_of_all actors) → HasReadTables setting change switches actors tables containers old new)
    → (actors : List Worked) → AreGathered actors old.seat old.words old.draws → AllCalls (AllKeepWords (version_after setting other)) (calls_of_all actors) → HasReadTables setting other switches actors tables containers old new
has_read setting change other switches tables containers old new what read =
    subst (λ (c : Label → Change). (actors : List Worked) → AreGathered actors old.seat old.words old.draws → AllCalls (AllKeepWords (version_after setting c)) (calls_of_all actors) → HasReadTables setting c switches actors tables containers old new) what read
