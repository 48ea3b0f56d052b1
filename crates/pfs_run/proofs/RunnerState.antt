-- Where a run stands, as its runner has it.
use Rattle.std.proofs.Common.{ℕ, List, [], take, drop, Some, subst}
use Rattle.pfs_actor.specs.PlainViews.{between}
use Rattle.pfs_admin.specs.AdministrationStates.{State as Administration}
use Rattle.pfs_admin.specs.declared.changes.Change.{Change}
use Rattle.pfs_board.specs.declared.view.Label.{Label}
use Rattle.pfs_classes.specs.declared.setting.Setting.{Setting}
use Rattle.pfs_law_script.specs.BlocksAhead.{ahead_of}
use Rattle.pfs_law_script.specs.Course.{PhasedBlock}
use Rattle.pfs_levels.specs.PlainStore.{IsAt, in_hand, slot_at}
use Rattle.pfs_levels.specs.Views.{Store}
use Rattle.pfs_levels.specs.declared.plain.PlainRows.{PlainRows}
use Rattle.pfs_script.specs.declared.blocks.Block.{Block}
use Rattle.pfs_script.specs.declared.blocks.Phase.{Phase}
use Rattle.pfs_run.proofs.RunProgress.{IsPast}
use Rattle.pfs_run.specs.RunPositions.{IsAlong, Standing, position, standing}
use Rattle.pfs_run.specs.declared.runner.Progress.{Progress}

-- plain rows as contracts see them, and the actor over them
abbrev pub rows_of : PlainRows → Store
rows_of rows = record {
  reached = λ start calls. IsAt rows.slots rows.words.items rows.tickets start.flags calls;
  hand = λ row. in_hand (slot_at rows.slots row);
  left = rows.left;
  draws = rows.draws;
  words = Some rows.words.items;
  name = 0;
}

abbrev pub store_of : Setting → (Label → Change) → PlainRows → Administration → Store
store_of setting change rows admin = between setting change (rows_of rows) admin

abbrev pub standing_of : Setting → (Label → Change) → PlainRows → Administration → Progress → Standing
standing_of setting change rows admin progress = standing (store_of setting change rows admin) progress

abbrev pub Stands : Setting → List Phase → List Phase → List Block → List PhasedBlock → Standing → Type 0
Stands setting phases before first ahead run = IsAlong setting phases (position before first ahead) run

-- behind the last block of a phase
pub behind : (setting : Setting) (phases before : List Phase) (phase : Phase) (after : List Phase) (i : ℕ) (run : Standing) → IsPast phase.blocks i
    → Stands setting phases before (take i phase.blocks) (ahead_of before (drop i phase.blocks) after) run → Stands setting phases before phase.blocks (ahead_of before [] after) run
behind setting phases before phase after i run p s =
    subst (λ z. Stands setting phases before phase.blocks (ahead_of before z after) run) p.dropped
    (subst (λ z. Stands setting phases before z (ahead_of before (drop i phase.blocks) after) run) p.taken s)
