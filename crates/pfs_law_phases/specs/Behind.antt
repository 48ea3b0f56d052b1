-- Where a run of a script over a board stands behind its first phases, whose sessions ran at once, and one phase more.
use Rattle.std.specs.Prelude.{ℕ, ◌≡◌, ◌≤◌, ◌+◌, List, [], ◌∷◌, ◌++◌, length}
use Rattle.atomic_table.specs.Seated.{TableId}
use Rattle.pfs_admin.specs.OpeningState.{opening_flags}
use Rattle.pfs_admin.specs.declared.changes.Change.{Change}
use Rattle.pfs_board.specs.declared.view.Label.{Label}
use Rattle.pfs_board_store.specs.RootActors.{calls_of_all}
use Rattle.pfs_board_store.specs.RootLaws.{IsRunsBoard}
use Rattle.pfs_classes.specs.declared.setting.Setting.{Setting}
use Rattle.pfs_journal.specs.declared.report.PhaseParts.{PhaseParts}
use Rattle.pfs_journal.specs.declared.report.ReportParts.{ReportParts}
use Rattle.pfs_law_board.specs.PhaseEnds.{AreAllBut, AreEnded, IsEnded, all_of}
use Rattle.pfs_law_board.specs.PhaseEnds.{Phase as Ended}
use Rattle.pfs_law_plain.specs.Spells.{Spell}
use Rattle.pfs_law_script.specs.BlocksAhead.{NoneIsOver, block_at}
use Rattle.pfs_law_script.specs.Course.{IsCourse, numbered}
use Rattle.pfs_law_script.specs.CourseSteps.{IsPlayed, spell_at}
use Rattle.pfs_law_script.specs.PlayableBlocks.{IsPlayable}
use Rattle.pfs_law_script.specs.ReportSpells.{ArePhasesTold, AreTold}
use Rattle.pfs_law_shared.specs.Ends.{IsEnd}
use Rattle.pfs_law_shared.specs.Order.{AreSingle}
use Rattle.pfs_law_shared.specs.Shares.{actors_of, AreShared}
use Rattle.pfs_law_shared.specs.Tickets.{AllPlaced}
use Rattle.pfs_law_threads.specs.Runs.{HasEnded}
use Rattle.pfs_matching.specs.ObjectRules.{opening_objects}
use Rattle.pfs_runs.specs.Runs.{AreFinal, IsRun}
use Rattle.pfs_runs.specs.ScriptLines.{change_in}
use Rattle.pfs_script.specs.declared.blocks.Block.{Block}
use Rattle.pfs_script.specs.declared.blocks.Phase.{Phase}

-- a run of a script over a board, as its root has it behind some phases: those that ended, newest first, what the
-- sessions did at their blocks, and the reports of them
pub record Standing : Type 0 where
  pub ended : List Ended
  pub spells : List Spell
  pub reports : List PhaseParts

-- Behind the phases before and with those after ahead: a course over the blocks so far; no session that is over has a
-- block ahead; what the spells have in common phase by phase; and they are all that the board's actors did, but for the
-- root's own. The reports tell of them, and the ends that they tell are those of their phases
pub record IsBehind (setting : Setting) (phases : List Phase) (depths : ℕ → ℕ) (switches : TableId) (start : List ℕ)
    (before after : List Phase) (run : Standing) : Type 0 where
  pub course : IsCourse setting (change_in phases) depths (numbered 1 before) run.spells
  pub none_over : NoneIsOver run.spells (numbered (1 + length before) after)
  pub shared : AreShared (opening_flags setting opening_objects) run.spells
  pub placed : AllPlaced run.spells
  pub single : AreSingle run.spells
  pub ended : AreEnded setting (change_in phases) switches start run.ended
  pub theirs : AreAllBut (actors_of run.spells) (calls_of_all (all_of run.ended))
  pub told : ArePhasesTold setting 1 before run.reports run.spells
  pub finals : AreFinal (HasEnded setting (change_in phases) run.spells) run.reports
  pub numbers : AreFinal (λ (report : PhaseParts). report.number ≤ length before) run.reports

-- what sessions did at these blocks at once, each as the spells before the phase left it
abbrev pub ArePlayed : Setting → (Label → Change) → (ℕ → ℕ) → List Spell → List Phase → List Block → List Spell → Type 0
ArePlayed setting change depths spells before [] [] = Unit {0}
ArePlayed setting change depths spells before (block ∷ blocks) (spell ∷ now) =
    (spell ≡ spell_at (block_at before block) spell.doings)
    × IsPlayed setting change depths spells (block_at before block) spell.doings
    × ArePlayed setting change depths spells before blocks now
ArePlayed setting change depths spells before _ _ = ⊥

-- One phase more: its blocks were played; the board's phase ended, whose actors made the calls of the blocks' sessions,
-- the newest first, and no others; and its report tells of the blocks, and of what stood behind them
pub record IsPhaseDone (setting : Setting) (phases : List Phase) (depths : ℕ → ℕ) (switches : TableId) (start : List ℕ)
    (before : List Phase) (phase : Phase) (run : Standing) (now : List Spell) (board : Ended) (report : PhaseParts)
    : Type 0 where
  pub played : ArePlayed setting (change_in phases) depths run.spells before phase.blocks now
  pub placed : AllPlaced now
  pub ended : IsEnded setting (change_in phases) switches start (all_of run.ended) board
  pub theirs : calls_of_all board.actors ≡ actors_of now
  pub number : report.number ≡ 1 + length before
  pub told : AreTold setting report.number phase.blocks now report.blocks
  pub read : IsEnd setting (change_in phases) (run.spells ++ now) report

abbrev pub next_of : Standing → List Spell → Ended → PhaseParts → Standing
next_of run now board report = record {
  ended = board ∷ run.ended;
  spells = run.spells ++ now;
  reports = run.reports ++ report ∷ [];
}

abbrev pub BeginLaw : Type 0
BeginLaw = (setting : Setting) (phases : List Phase) (depths : ℕ → ℕ) (switches : TableId) (start : List ℕ)
    → IsBehind setting phases depths switches start [] phases (record { ended = []; spells = []; reports = [] })

abbrev pub NextLaw : Type 0
NextLaw = (setting : Setting) (phases : List Phase) (depths : ℕ → ℕ) (switches : TableId) (start : List ℕ)
    (before : List Phase) (phase : Phase) (after : List Phase) (run : Standing) (now : List Spell) (board : Ended)
    (report : PhaseParts) → IsRunsBoard start → phases ≡ before ++ phase ∷ after → IsPlayable before phase after
    → IsBehind setting phases depths switches start before (phase ∷ after) run
    → IsPhaseDone setting phases depths switches start before phase run now board report
    → IsBehind setting phases depths switches start (before ++ phase ∷ []) after (next_of run now board report)

-- behind all phases the reports are a run of the script
abbrev pub EndLaw : Type 0
EndLaw = (setting : Setting) (phases : List Phase) (depths : ℕ → ℕ) (switches : TableId) (start : List ℕ)
    (run : Standing) (report : ReportParts) → IsBehind setting phases depths switches start phases [] run
    → report.format ≡ 1 → report.phases ≡ run.reports → IsRun setting phases report
