use Rattle.std.proofs.Common.{◌+◌, [], length, take, drop}
use Rattle.pfs_law_script.specs.Course.{numbered}
use Rattle.pfs_run.proofs.RunnerState.{Stands, standing_of}
use Rattle.pfs_run.proofs.run.run_named.Given as goal

abbrev pub invariant-loop-phase : goal.invariant-loop-phase
invariant-loop-phase g l = Stands l.setting l.phases (take l.phase-index l.phases) [] (numbered (1 + length (take l.phase-index l.phases)) (drop l.phase-index l.phases)) (standing_of g.N.Named.setting g.N.Named.change l.runner.actor.rows l.runner.actor.admin l.runner.progress)
