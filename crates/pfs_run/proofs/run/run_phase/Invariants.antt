use Rattle.std.proofs.Common.{◌≡◌, ◌+◌, ◌++◌, ◌∷◌, [], List, length, take, drop}
use Rattle.pfs_law_script.specs.BlocksAhead.{ahead_of}
use Rattle.pfs_law_script.specs.Course.{numbered}
use Rattle.pfs_script.specs.declared.blocks.Phase.{Phase}
use Rattle.pfs_run.proofs.RunnerState.{Stands, standing_of}
use Rattle.pfs_run.proofs.run.run_phase.Given as goal

abbrev pub invariant-loop-block : goal.invariant-loop-block
invariant-loop-block g l = (before : List Phase) → (after : List Phase) → l.phases ≡ before ++ l.phase ∷ after
    → Stands l.setting l.phases before [] (numbered (1 + length before) (l.phase ∷ after)) (standing_of g.N.Named.setting g.N.Named.change l.fn.runner.actor.rows l.fn.runner.actor.admin l.fn.runner.progress)
    → Stands l.setting l.phases before (take l.block-index l.phase.blocks) (ahead_of before (drop l.block-index l.phase.blocks) after) (standing_of g.N.Named.setting g.N.Named.change l.runner.actor.rows l.runner.actor.admin l.runner.progress)
